-- The masks of labels, where they are put. Assumes nothing.
use Rattle.std.proofs.Common.{◌≡◌, ℕ, ◌-◌, ◌*◌, ◌<◌, ◌≤◌, min, List, map, length, take, drop, get_or, Ok, inr, sym, ap, ap₂, ◌∙◌, subst, arith}
use Rattle.std.specs.List.{zip}
use Rattle.std.proofs.lemmas.Slice.Zip.{get_or-zip}
use Rattle.strips.specs.Masks.{strip}
use Rattle.strips.specs.declared.Strip.{Strip}
use Rattle.strips.proofs.Bits.{bit_zero}
use Rattle.labelling.specs.Whole.{LabelOf, place}
use Rattle.bench_calls.specs.declared.outcome.Outcome.{Outcome}
use Rattle.bench_calls.specs.declared.labelled.Counts.{Counts}
use Rattle.bench_calls.specs.Outcomes.{done}
use Rattle.bench_calls.specs.Memory.{over}
use Rattle.bench_calls.specs.Labelled.{TextLabelled}
use Rattle.bench_calls.specs.Kinds.{in_masks, MasksTold}
use Rattle.bench_calls.proofs.Overs.{put_cell, put_later, put_length}
use Rattle.bench_calls.proofs.Rooms.{cell_within}

abbrev weak_of : Strip → ℕ
weak_of x = x.weak

abbrev strong_of : Strip → ℕ
strong_of x = x.strong

-- a label, whichever
any : Strip
any = record {
  weak = 0;
  strong = 0;
  sound = λ c p. p.2;
  settled = λ c d p. let same = bit_zero (d - 1) ∙ sym (bit_zero (c - 1)) in (same, same);
}

-- a text is labelled and the masks are put
pub masks_told : (text : List ℕ) (cells : List Strip) (old_weak old_strong weak strong : List ℕ) (room : ℕ) (w : Counts) (o : Outcome)
    → TextLabelled (λ (x : Strip). strip x.weak x.strong) 64 room text (Ok w) cells → room ≡ min (length old_weak) (length old_strong)
    → weak ≡ over (map weak_of (take w.cells cells)) old_weak → strong ≡ over (map strong_of (take w.cells cells)) old_strong → o ≡ done w.states
    → MasksTold text old_weak old_strong o weak strong
masks_told text cells old_weak old_strong weak strong room w o t shorter put_weak put_strong is =
    let formulas = t.0 in
    let xs = t.1 in
    let total : w.cells ≡ length formulas * length xs = t.5.1 in
    let there : w.cells ≤ length cells = t.6 in
    let fits : w.cells ≤ min (length old_weak) (length old_strong) = omega (arith, t.3.1) in
    let long_weak = put_length weak_of cells old_weak weak w.cells put_weak there in
    let long_strong = put_length strong_of cells old_strong strong w.cells put_strong there in
    let shows : (k : ℕ) (d : ℕ × ℕ) → k < w.cells → get_or (zip weak strong) k d ≡ ((get_or cells k any).weak, (get_or cells k any).strong) = λ k d h.
    get_or-zip weak strong k d (omega (arith, long_weak)) (omega (arith, long_strong))
    ∙ ap₂ (λ a b. (a, b)) (put_cell weak_of cells old_weak weak w.cells put_weak there k any d.0 h (omega arith)) (put_cell strong_of cells old_strong strong w.cells put_strong there k any d.1 h (omega arith)) in
    inr (
      formulas,
      xs,
      t.2,
      record {
        suits = (t.3.0, omega arith, t.3.2);
        labels = λ f i h a b d.
            let within : place (length xs) f i < w.cells = omega (arith, cell_within f i (length formulas) (length xs) h a b) in
            subst (λ z. LabelOf in_masks 64 formulas xs f i z) (sym (shows (place (length xs) f i) d within)) (t.4 f i h a b any);
        later_weak = subst (λ j. drop j weak ≡ drop j old_weak) total (put_later weak_of cells old_weak weak w.cells put_weak there);
        later_strong = subst (λ j. drop j strong ≡ drop j old_strong) total (put_later strong_of cells old_strong strong w.cells put_strong there);
      },
      is ∙ ap done t.5.0,
    )
