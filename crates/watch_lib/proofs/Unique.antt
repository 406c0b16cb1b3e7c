-- An input gives one output. Assumes nothing.
use Rattle.std.proofs.Common.{◌≡◌, ℕ, ◌+◌, List, [], ◌∷◌, ◌++◌, length, drop, Some, None, sym, refl, ap, ◌∙◌, subst, ap₂, inl, inr, arith, length-append}
use Rattle.logic.specs.declared.types.Formula.{Formula}
use Rattle.logic.specs.declared.types.Rule.{Rule}
use Rattle.logic.specs.declared.types.State.{State}
use Rattle.faults.specs.declared.line.LineFault.{LineFault}
use Rattle.faults.specs.declared.read.ReadFault.{ReadFault}
use Rattle.faults.specs.Refusals.{of_line, refusal}
use Rattle.refusals.specs.declared.Refusal.{Refusal}
use Rattle.refusals.specs.Numbers.{told}
use Rattle.traces.specs.Traces.{trace_line}
use Rattle.traces.specs.Meanings.{Passes}
use Rattle.traces.proofs.Unique.{one_state, fit_or_refused, one_refusal}
use Rattle.rulestexts.proofs.Unique as rulesText
use Rattle.answers.specs.declared.types.Call.TheVariants.{Append}
use Rattle.answers.specs.Answers.{Ground, refusal_of}
use Rattle.watch_lib.specs.declared.lines.Line.{Line}
use Rattle.watch_lib.specs.declared.lines.Line.TheVariants.{Told, Refused, End}
use Rattle.watch_lib.specs.Laws.{OneOutput}
use Rattle.monitor.specs.Book.{ground}
use Rattle.watch_lib.specs.Watched.{point_lines, Reaches, none, more, NotTaken, Closes, Traced, too_long, unruled, traced}
use Rattle.watch_lib.proofs.Walks.{Walk, here, walk_more, Stuck, one_end}

-- where a reading of trace lines stands: the accepted states, the text that is left, and the lines so far
pub record Place : Type 0 where
  pub states : List State
  pub rest : List ℕ
  pub lines : List Line

abbrev pub place : List State → List ℕ → List Line → Place
place xs rest lines = record { states = xs; rest = rest; lines = lines }

module _ (G : Ground) where
  abbrev pub stepped : Place → State → List ℕ → Place
  stepped p x rest = place (p.states ++ x ∷ []) rest (p.lines ++ point_lines G (p.states ++ x ∷ []))

  -- the next state is accepted
  abbrev pub Step : Place → Place → Type 0
  Step p q =
      (x : State) × (rest : List ℕ) × Passes (length p.states) x p.rest rest
      × (refusal_of G p.states (Append x) ≡ None) × (q ≡ stepped p x rest)

  pub one_step : (p q r : Place) → Step p q → Step p r → q ≡ r
  one_step p q r (x, s, fit, ok, e) (y, t, fit', ok', f) =
      let d = one_state (length p.states) x y p.rest s t fit fit' in
      e ∙ ap₂ (stepped p) d.0 d.1 ∙ sym f

  pub walk : {start : List ℕ} {xs : List State} {rest : List ℕ} {lines : List Line} → Reaches G start xs rest lines → Walk Step (place [] start []) (place xs rest lines)
  walk none = here refl
  walk (more {x = x} {rest = rest} reaches fit ok) = walk_more Step (walk reaches) (x, rest, fit, ok, refl)

  -- a state that is accepted and one that is not
  clash : (xs : List State) (x y : State) (why : Refusal) → x ≡ y → refusal_of G xs (Append x) ≡ None → refusal_of G xs (Append y) ≡ Some why → ⊥
  clash xs x y why e ok out = let n : ◌≡◌ {A = ℕ} 0 1 = cc in omega arith

  -- after the last line no state is accepted
  pub stuck : (xs : List State) (text : List ℕ) (before : List Line) (n : ℕ) (last : Line) → Closes G xs text n last → Stuck Step (place xs text before)
  stuck xs text before n (Told c t) closes q s = closes
  stuck xs text before n (Refused k l) (some, at, inl (e, out, number)) q (x, rest, fit, ok, _) = fit_or_refused (length xs) x text rest e fit out
  stuck xs text before n (Refused k l) (some, at, inr (y, t, why, fit', out, number)) q (x, rest, fit, ok, _) =
      clash xs x y why (one_state (length xs) x y text rest t fit fit').0 ok out
  stuck xs text before n (End k t) (none_left, e) q (x, rest, fit, ok, _) =
      omega (arith, none_left, ap length fit.fits.shows.line.shows, length-append (trace_line fit.numbers) (10 ∷ rest))

  one_number : (xs : List State) (text : List ℕ) (m n : ℕ) → NotTaken G xs text m → NotTaken G xs text n → m ≡ n
  one_number xs text m n (inl (e, x, p)) (inl (f, y, q)) = p ∙ ap (λ (z : LineFault). (of_line z).number) (one_refusal (length xs) text e f x y) ∙ sym q
  one_number xs text m n (inl (e, x, p)) (inr (y, s, why, fit, out, q)) = absurd (fit_or_refused (length xs) y text s e fit x)
  one_number xs text m n (inr (x, r, why, fit, out, p)) (inl (f, y, q)) = absurd (fit_or_refused (length xs) x text r f fit y)
  one_number xs text m n (inr (x, r, why, fit, out, p)) (inr (y, s, why', fit', out', q)) =
      let d = one_state (length xs) x y text r s fit fit' in
      let w : why ≡ why' = cc d.0 in
      p ∙ ap (λ (z : Refusal). (told z).number) w ∙ sym q

  one_last : (xs : List State) (text : List ℕ) (n : ℕ) (a b : Line) → Closes G xs text n a → Closes G xs text n b → a ≡ b
  one_last xs text n (Told c x) b p q = absurd p
  one_last xs text n (Refused k l) (Told c x) p q = absurd q
  one_last xs text n (Refused k l) (Refused k' l') p q = ap₂ Refused (one_number xs text k k' p.2 q.2) (p.1 ∙ sym q.1)
  one_last xs text n (Refused k l) (End m t) p q = absurd (omega (arith, p.0, q.0))
  one_last xs text n (End m t) (Told c x) p q = absurd q
  one_last xs text n (End m t) (Refused k l) p q = absurd (omega (arith, p.0, q.0))
  one_last xs text n (End m t) (End m' t') p q = p.1 ∙ sym q.1

  one_trace : (text : List ℕ) (n : ℕ) (a b : List Line) → Traced G text n a → Traced G text n b → a ≡ b
  one_trace text n a b p q =
      let e : place p.states p.rest p.before ≡ place q.states q.rest q.before =
      one_end Step one_step (walk p.reaches) (walk q.reaches) (stuck p.states p.rest p.before _ p.last p.closes) (stuck q.states q.rest q.before _ q.last q.closes) in
      let l : p.last ≡ q.last =
      one_last p.states p.rest (n + length p.states) p.last q.last p.closes
      (subst (λ (z : Place). Closes G z.states z.rest (n + length z.states) q.last) (sym e) q.closes) in
      p.all ∙ ap₂ (λ (z : Place) m. z.lines ++ m ∷ []) e l ∙ sym q.all

-- two readings of a rules text
pub moved : (input : List ℕ) (fs gs : List Formula) (rs qs : List Rule) (m n : ℕ) (lines : List Line) → (fs ≡ gs) × (rs ≡ qs) × (m ≡ n)
    → Traced (ground gs qs 256) (drop n input) (length gs + length qs + 3) lines → Traced (ground fs rs 256) (drop m input) (length fs + length rs + 3) lines
moved input fs gs rs qs m n lines (e, f, u) t =
    subst (λ k. Traced (ground fs rs 256) (drop k input) (length fs + length rs + 3) lines) (sym u)
    (subst (λ z. Traced (ground fs z 256) (drop n input) (length fs + length z + 3) lines) (sym f)
    (subst (λ z. Traced (ground z qs 256) (drop n input) (length z + length qs + 3) lines) (sym e) t))

pub one_output : OneOutput
one_output input a (too_long h e) b (too_long k f) = f ∙ sym e
one_output input a (too_long h e) b (unruled k y q f) = absurd (omega arith)
one_output input a (too_long h e) b (traced k gs qs n y t) = absurd (omega arith)
one_output input a (unruled h x p e) b (too_long k f) = absurd (omega arith)
one_output input a (unruled h x p e) b (unruled k y q f) =
    f ∙ ap (λ (z : ReadFault). Refused (refusal z).number (refusal z).place ∷ []) (rulesText.one_refusal input y x q p) ∙ sym e
one_output input a (unruled h x p e) b (traced k gs qs n y t) = absurd (rulesText.whole_or_refused input gs qs n x y p)
one_output input a (traced h fs rs m x t) b (too_long k f) = absurd (omega arith)
one_output input a (traced h fs rs m x t) b (unruled k y q f) = absurd (rulesText.whole_or_refused input fs rs m y x q)
one_output input a (traced h fs rs m x t) b (traced k gs qs n y u) =
    one_trace (ground fs rs 256) (drop m input) (length fs + length rs + 3) b a (moved input fs gs rs qs m n b (rulesText.same_whole input fs gs rs qs m n x y) u) t
