-- An input that goes on from another. Assumes nothing.
use Rattle.std.proofs.Common.{◌≡◌, ℕ, ◌+◌, ◌-◌, ◌≤◌, List, [], ◌∷◌, ◌++◌, length, take, drop, sym, ap, ◌∙◌, subst, append_assoc, arith, length-append}
use Rattle.std.proofs.lemmas.List.{append-nil, same_from_push, drop-append-le, take-append-drop}
use Rattle.std.proofs.Math.Seq.{drop-append_seam}
use Rattle.rulestexts.proofs.Unique as rulesText
use Rattle.answers.specs.Answers.{Ground}
use Rattle.faults.specs.Refusals.{refusal}
use Rattle.monitor.specs.Book.{ground}
use Rattle.watch_lib.specs.declared.lines.Line.{Line}
use Rattle.watch_lib.specs.declared.lines.Line.TheVariants.{Refused}
use Rattle.watch_lib.specs.Laws.{BeginWith, PrintsFirst}
use Rattle.watch_lib.specs.Watched.{point_lines, Traced, Watched, too_long, unruled, traced}
use Rattle.watch_lib.specs.WatchedOn.{WatchedOn, goes_on}
use Rattle.watch_lib.proofs.Longer as longer
use Rattle.watch_lib.proofs.Unique.{Place, Step, one_step, walk, stuck, moved}
use Rattle.watch_lib.proofs.Walks.{Walk, here, next}
use Rattle.watch_lib.proofs.Walks as walks

-- one beginning, and another
both : (lines first second third : List Line) → lines ≡ second ++ third → BeginWith second first → BeginWith lines first
both lines first second third e b = (b.0 ++ third, e ∙ ap (λ l. l ++ third) b.1 ∙ append_assoc first b.0 third)

module _ (G : Ground) where
  -- lines that were given stay
  kept : {p q : Place} → Walk (Step G) p q → BeginWith q.lines p.lines
  kept {p} {q} (here e) = ([], ap (λ (z : Place). z.lines) (sym e) ∙ sym (append-nil p.lines))
  kept {p} {q} (next {b = b} (x, rest, fit, ok, e) w) =
      let given = point_lines G (p.states ++ x ∷ []) in
      let first : BeginWith b.lines p.lines = (given, ap (λ (z : Place). z.lines) e) in
      let then = kept w in
      both q.lines p.lines b.lines then.0 then.1 first

  longer_trace : (text added : List ℕ) (m n : ℕ) (lines other : List Line) (p : Traced G text m lines) → Traced G (text ++ added) n other → BeginWith other p.before
  longer_trace text added m n lines other p q =
      let w = walks.goes_on (Step G) (one_step G) (walk G (longer.reaches added G p.reaches)) (walk G q.reaches) (stuck G q.states q.rest q.before _ q.last q.closes) in
      both other p.before q.before (q.last ∷ []) q.all (kept w)

-- all lines but the last are the first ones
pub prints_first : (input : List ℕ) (lines : List Line) → Watched input lines → PrintsFirst input lines
prints_first input lines (too_long h e) before last at added other fit w = absurd (omega (arith, h, fit, length-append input added))
prints_first input lines (unruled h x p e) before last at added other fit w =
    let d = same_from_push before [] last (Refused (refusal x).number (refusal x).place) (sym at ∙ e) in (other, ap (λ l. l ++ other) (sym d.0))
prints_first input lines (traced h fs rs used x t) before last at added other fit (too_long k f) = absurd (omega (arith, fit, k))
prints_first input lines (traced h fs rs used x t) before last at added other fit (unruled k y q f) =
    absurd (rulesText.whole_or_refused (input ++ added) fs rs used y (longer.whole added input fs rs used x) q)
prints_first input lines (traced h fs rs used x t) before last at added other fit (traced k gs qs n y u) =
    let place = length fs + length rs + 3 in
    let over : Traced (ground fs rs 256) (drop used (input ++ added)) place other =
    moved (input ++ added) fs gs rs qs used n other (rulesText.same_whole (input ++ added) fs gs rs qs used n (longer.whole added input fs rs used x) y) u in
    let on : Traced (ground fs rs 256) (drop used input ++ added) place other =
    subst (λ z. Traced (ground fs rs 256) z place other) (drop-append-le used input added x.within) over in
    let same : t.before ≡ before = (same_from_push t.before before t.last last (sym t.all ∙ at)).0 in
    subst (BeginWith other) same (longer_trace (ground fs rs 256) (drop used input) added place place lines other t on)

-- there is a last line
pub split : (input : List ℕ) (lines : List Line) → Watched input lines → (before : List Line) × (last : Line) × (lines ≡ before ++ last ∷ [])
split input lines (too_long h e) = ([], Refused 9 0, e)
split input lines (unruled h x p e) = ([], Refused (refusal x).number (refusal x).place, e)
split input lines (traced h fs rs used x t) = (t.before, t.last, t.all)

-- what a longer input prints has the lines up to the last one for its first ones, by the law of the beginning
pub begun_by : (input : List ℕ) (seen : ℕ) (lines other : List Line) → length input ≤ 32768
    → Watched (take seen input) lines → PrintsFirst (take seen input) lines → Watched input other
    → (before : List Line) × (last : Line) × (lines ≡ before ++ last ∷ []) × (rest : List Line) × (other ≡ before ++ rest)
begun_by input seen lines other fit first law whole =
    let parts = split (take seen input) lines first in
    let all : input ≡ take seen input ++ drop seen input = sym (take-append-drop seen input) in
    let on = law parts.0 parts.1 parts.2 (drop seen input) other (subst (λ t. length t ≤ 32768) all fit) (subst (λ t. Watched t other) all whole) in
    (parts.0, parts.1, parts.2, on.0, on.1)

-- the lines after as many as were printed, but the last
pub new_lines : (input : List ℕ) (seen : ℕ) (lines other new : List Line) → length input ≤ 32768
    → Watched (take seen input) lines → PrintsFirst (take seen input) lines → Watched input other
    → new ≡ drop (length lines - 1) other → WatchedOn input seen new
new_lines input seen lines other new fit first law whole e =
    let (before, last, is, rest, begins) = begun_by input seen lines other fit first law whole in
    let count : length lines - 1 ≡ length before = omega (arith, ap length is, length-append before (last ∷ [])) in
    let same : new ≡ rest = e ∙ ap (λ n. drop n other) count ∙ ap (drop (length before)) begins ∙ drop-append_seam before rest in
    goes_on fit before last (subst (Watched (take seen input)) is first) (subst (Watched input) (begins ∙ ap (λ l. before ++ l) (sym same)) whole)

-- there are as many lines
pub lines_so_far : (input : List ℕ) (seen : ℕ) (lines other : List Line) → length input ≤ 32768
    → Watched (take seen input) lines → PrintsFirst (take seen input) lines → Watched input other → length lines - 1 ≤ length other
lines_so_far input seen lines other fit first law whole =
    let (before, last, is, rest, begins) = begun_by input seen lines other fit first law whole in
    omega (arith, ap length is, length-append before (last ∷ []), ap length begins, length-append before rest)
