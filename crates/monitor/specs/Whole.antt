-- What whole labelling of a monitor's own record leaves.
use Rattle.std.specs.Prelude.{◌≡◌, ℕ, ◌*◌, Bool, List, length, Ok, Err, Result, ◌≢◌, slice_index_or}
use Rattle.logic.specs.declared.types.Formula.{Formula}
use Rattle.logic.specs.declared.types.State.{State}
use Rattle.labels.specs.Readings.{Reading}
use Rattle.refusals.specs.declared.Refusal.{Refusal}
use Rattle.refusals.specs.declared.Refusal.TheVariants as refusal
use Rattle.records.specs.declared.growing.Growing as growing
use Rattle.records.specs.declared.readable.Readable as readable
use Rattle.labelling.specs.Whole.{place, Short, Roomy, Declined, Labelled}
use Rattle.table.specs.Tables.{formulas_in}
use Rattle.expectations.specs.declared.types.Verdict.{Verdict}
use Rattle.growth.specs.Laws.{read_as}
use Rattle.answers.specs.declared.types.Call.TheVariants.{LabelAt}
use Rattle.answers.specs.declared.types.Answer.TheVariants.{Reads}
use Rattle.answers.specs.Answers.{Ground, told}
use Rattle.monitor.specs.Live.{table_of, states_of, count_of, Own}
use Rattle.monitor.specs.declared.live.Monitor.{Monitor}

-- why it is declined: the record's count is not the monitor's, or as whole labelling declines the record
abbrev pub WholeDeclined : (own : ℕ) → List Formula → List State → (reach labels work : ℕ) → Refusal → Type 0
WholeDeclined own table xs reach labels work refusal.ForeignRecord = own ≢ length xs
WholeDeclined own table xs reach labels work why = (own ≡ length xs) × Declined table xs reach labels work why

-- it answers the number of states and leaves their labels, or declines and leaves all memory as it was
abbrev pub WholeAnswered : {K : Type 0} → (K → Reading) → (reach own : ℕ) → List Formula → List State → (old oldWork : List K) → Result ℕ Refusal → (new newWork : List K) → Type 0
WholeAnswered reads reach own table xs old oldWork (Ok n) new newWork = (own ≡ length xs) × (n ≡ length xs) × Labelled reads reach table xs old oldWork new newWork
WholeAnswered reads reach own table xs old oldWork (Err why) new newWork =
    WholeDeclined own table xs reach (length old) (length oldWork) why × (new ≡ old) × (newWork ≡ oldWork)

module _ {R : Type 0} {G : growing.Ghosts R} {D : readable.Ghosts R} where
  -- so the record of a monitor is labelled
  abbrev pub RecordLabelled : {K : Type 0} → (K → Reading) → (reach : ℕ) → Monitor R G D → (old oldWork : List K) → Result ℕ Refusal → (new newWork : List K) → Type 0
  RecordLabelled reads reach m old oldWork result new newWork =
      WholeAnswered reads reach (count_of m) (formulas_in (table_of m)) (states_of m) old oldWork result new newWork

  -- the states of its record are at most 256 and no more than the kind is long; and the label memory and the working memory have a
  -- cell for each formula and state
  abbrev pub Suffices : {K : Type 0} → (reach : ℕ) → Monitor R G D → (labels work : List K) → Type 0
  Suffices reach m labels work =
      Short (length (states_of m)) reach × Roomy (length (formulas_in (table_of m)) * length (states_of m)) (length labels) (length work)

  -- where its record is its own, and kind and memory suffice, whole labelling answers how many states there are
  abbrev pub AnsweredIfEnough : {K : Type 0} → (reach : ℕ) → Monitor R G D → (labels work : List K) → Result ℕ Refusal → Type 0
  AnsweredIfEnough reach m labels work result = Own m → Suffices reach m labels work → result ≡ Ok (length (states_of m))

-- every verdict that a monitor gives is read in the cells too, at its point: true where both readings hold, false where
-- neither does, unknown where only the weak one does
abbrev pub Agrees : {K : Type 0} → (K → Reading) → Ground → List State → List K → Type 0
Agrees {K} reads G xs cells = (f i c : ℕ) (v : Verdict) → told G xs (LabelAt f i c) ≡ Ok (Reads v) → (d : K) (r : Bool) → reads (slice_index_or cells (place (length xs) f i) d) r c ≡ read_as v r
