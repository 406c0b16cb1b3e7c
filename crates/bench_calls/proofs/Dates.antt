-- The numbers of labels, where they are put. Assumes nothing.
use Rattle.std.proofs.Common.{◌≡◌, ℕ, ◌*◌, ◌<◌, ◌≤◌, List, map, length, take, drop, get_or, Ok, inr, ℤ, pos, negsuc, ◌≤ℤ◌, sym, ap, ◌∙◌, subst, arith}
use Rattle.std.proofs.lemmas.Int.{ints}
use Rattle.labels.specs.Dated.{dated}
use Rattle.labels.specs.declared.dated.Dated.{Dated}
use Rattle.labelling.specs.Whole.{LabelOf, place}
use Rattle.bench_calls.specs.declared.outcome.Outcome.{Outcome}
use Rattle.bench_calls.specs.declared.labelled.Counts.{Counts}
use Rattle.bench_calls.specs.Outcomes.{done}
use Rattle.bench_calls.specs.Memory.{over}
use Rattle.bench_calls.specs.Labelled.{TextLabelled}
use Rattle.bench_calls.specs.Kinds.{DatesTold}
use Rattle.bench_calls.proofs.Overs.{put_cell, put_later}
use Rattle.bench_calls.proofs.Rooms.{cell_within}

abbrev number : Dated → ℤ
number x = x.value

-- a label, whichever
unknown : Dated
unknown = record { value = pos 0; low = omega (arith, ints); high = omega (arith, ints) }

-- a text is labelled and the numbers are put
pub dates_told : (text : List ℕ) (cells : List Dated) (labels now : List ℤ) (w : Counts) (o : Outcome) → TextLabelled (λ (x : Dated). dated x.value) 256 (length labels) text (Ok w) cells
    → now ≡ over (map number (take w.cells cells)) labels → o ≡ done w.states → DatesTold text labels o now
dates_told text cells labels now w o t put is =
    let formulas = t.0 in
    let xs = t.1 in
    let total : w.cells ≡ length formulas * length xs = t.5.1 in
    let there : w.cells ≤ length cells = t.6 in
    let suits = t.3 in
    let room : w.cells ≤ length labels = omega (arith, suits.1) in
    let shows : (k : ℕ) (d : ℤ) → k < w.cells → get_or now k d ≡ (get_or cells k unknown).value = λ k d h. put_cell number cells labels now w.cells put there k unknown d h room in
    inr (
      formulas,
      xs,
      t.2,
      record {
        suits = suits;
        labels = λ f i h a b d.
            let within : place (length xs) f i < w.cells = omega (arith, cell_within f i (length formulas) (length xs) h a b) in
            subst (λ z. LabelOf dated 256 formulas xs f i z) (sym (shows (place (length xs) f i) d within)) (t.4 f i h a b unknown);
        range = λ k d h.
            let x = get_or cells k unknown in
            subst (λ z. (negsuc 255 ≤ℤ z) × (z ≤ℤ pos 256)) (sym (shows k d (omega arith))) (x.low, x.high);
        later = subst (λ j. drop j now ≡ drop j labels) total (put_later number cells labels now w.cells put there);
      },
      is ∙ ap done t.5.0,
    )
