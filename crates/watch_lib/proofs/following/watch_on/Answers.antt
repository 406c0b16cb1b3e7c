use Rattle.std.proofs.Common.{◌≡◌, ℕ, ◌-◌, ◌≤◌, List, min, length, take, drop, vec_items, ap, ap₂, ◌∙◌, subst, arith}
use Rattle.std.proofs.lemmas.List.{take_min}
use Rattle.std.proofs.lemmas.Result.{IfOk-weaker}
use Rattle.watch_lib.specs.declared.lines.Line.{Line}
use Rattle.watch_lib.specs.Laws.{PrintsFirst}
use Rattle.watch_lib.specs.Watched.{Watched}
use Rattle.watch_lib.specs.WatchedOn.{WatchedOn}
use Rattle.watch_lib.proofs.GoingOn.{new_lines, lines_so_far}
use Rattle.watch_lib.proofs.Taking.{rest_part}
use Rattle.watch_lib.proofs.following.watch_on.Goals as goal

module _ (input : List ℕ) (seen near : ℕ) (printed lines slice : List Line) (count : ℕ) (nearer : near ≡ min seen (length input))
    (watched : Watched (take near input) printed) (first : PrintsFirst (take near input) printed) (whole : Watched input lines)
    (fit : length input ≤ 32768) (counts : count ≡ length printed) (same : slice ≡ lines) where
  front : take near input ≡ take seen input
  front = ap (λ n. take n input) nearer ∙ take_min seen input

  watched_seen : Watched (take seen input) printed
  watched_seen = subst (λ t. Watched t printed) front watched

  first_seen : PrintsFirst (take seen input) printed
  first_seen = subst (λ t. PrintsFirst t printed) front first

  within : count - 1 ≤ length slice
  within = let so_far = lines_so_far input seen printed lines fit watched_seen first_seen whole in omega (arith, so_far, counts, ap length same)

  new : (items : List Line) → items ≡ drop (count - 1) slice → WatchedOn input seen items
  new items e = new_lines input seen printed lines items fit watched_seen first_seen whole (e ∙ ap₂ (λ n ls. drop (n - 1) ls) counts same)

-- what was printed before is known by the contract of `watch` alone
pub slice_bounds-from_slice-count : goal.slice_bounds-from_slice-count
slice_bounds-from_slice-count c =
    let p = c.in_ok-printed in
    within c.args.input.now c.args.seen c.min.result p.printed.items c.in_ok-lines.lines.items c.as_slice.result.now c.len.result c.min.ensures
    p.ensures.lines p.ensures.first c.in_ok-lines.ensures.lines c.if-input-gt-MOST_BYTES.false (c.len.ensures ∙ p.printed.ok.0) c.as_slice.ensures.value

pub slice_bounds-from_slice-start : goal.slice_bounds-from_slice-start
slice_bounds-from_slice-start c = slice_bounds-from_slice-count c

pub returns : goal.returns
returns c =
    let p = c.in_ok-printed in
    IfOk-weaker c.from_slice.result _ (λ v. WatchedOn c.args.input.now c.args.seen (vec_items v))
    (λ v e.
    new c.args.input.now c.args.seen c.min.result p.printed.items c.in_ok-lines.lines.items c.as_slice.result.now c.len.result c.min.ensures
    p.ensures.lines p.ensures.first c.in_ok-lines.ensures.lines c.if-input-gt-MOST_BYTES.false (c.len.ensures ∙ p.printed.ok.0) c.as_slice.ensures.value (vec_items v) (e ∙ rest_part c.as_slice.result.now (c.len.result - 1)))
    c.from_slice.ensures.items
