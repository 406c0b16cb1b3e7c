use Rattle.std.proofs.Common.{◌≡◌, ℕ, ◌≤◌, ◌*◌, ◌∷◌, [], length, get_or, is_ok, Ok, false, slice_index_or, refl, sym, ap, ◌∙◌, ap₂, arith}
use Rattle.logic.specs.States.{blank}
use Rattle.labels.specs.Dated.{dated}
use Rattle.labels.specs.declared.dated.Dated.{Dated}
use Rattle.labelling.specs.Whole.{place}
use Rattle.table.specs.Tables.{formulas_in}
use Rattle.expectations.specs.declared.types.Verdict.TheVariants.{False}
use Rattle.answers.specs.declared.types.Call.TheVariants.{Append, LabelAt}
use Rattle.answers.specs.Answers.{told}
use Rattle.monitor.specs.Book.{ground_on}
use Rattle.monitor.specs.Live.{states_of}
use Rattle.slots.specs.Slots.{double_free_log}
use Rattle.slots.specs.Instances.{slots}
use Rattle.slots.proofs.Lasting.{slots_are}
use Rattle.slots.proofs.Instances.{all_six, false_in_log}
use Rattle.slots.proofs.live.labelled_whole.Goals as goal

-- six states of five formulas take thirty cells
thirty : (states formulas labels work : ℕ) → states ≡ 6 → formulas ≡ 5 → labels ≡ 30 → work ≡ 30 →
    ((states ≤ 256) × (states ≤ 256)) × ((formulas * states ≤ labels) × (formulas * states ≤ work))
thirty states formulas labels work s f l w =
    let e = ap₂ (λ a b. a * b) f s in
    ((omega (arith, s), omega (arith, s)), (omega (arith, e, l), omega (arith, e, w)))

pub returns : goal.returns
returns c =
    let table = c.in_ok-slot_table.ensures in
    let new = c.new.ensures in
    let outcome = c.run-outcome.ensures in
    let m = c.run-outcome.result.monitor in
    let is-slots = slots_are _ _ _ table.0 table.1 new.room in
    let made = ap₂ ground_on outcome.made.0 outcome.made.1 ∙ is-slots in
    let calls =
    ap (λ l. Append (get_or l 0 blank) ∷ Append (get_or l 1 blank) ∷ Append (get_or l 2 blank) ∷ Append (get_or l 3 blank) ∷ Append (get_or l 4 blank) ∷ Append (get_or l 5 blank) ∷ []) c.double_free.ensures in
    let whole = all_six _ _ _ _ _ is-slots new.empty calls (outcome.ran (omega arith)) in
    let n = ap length whole in
    let labelled =
    outcome.enough (omega arith) (outcome.empty (ap length new.empty)).own
    (thirty _ _ _ _ n (ap length (ap formulas_in outcome.made.0 ∙ table.0)) refl refl) in
    let reads_false =
    outcome.agrees (omega arith) (ap is_ok labelled) 4 3 4 False
    (ap (λ H. told H (states_of m) (LabelAt 4 3 4)) made ∙ ap (λ xs. told slots xs (LabelAt 4 3 4)) whole ∙ false_in_log) in
    ap₂ (λ a b. Ok (a, b)) (labelled ∙ ap Ok n)
    (
    c.read.ensures.within (omega arith) (omega arith)
    ∙ ap (λ k. dated (slice_index_or {A = Dated} c.run-outcome.new.labels (place k 4 3) c.index-labels.result).value false 4) (sym n)
    ∙ reads_false c.index-labels.result false
    )
