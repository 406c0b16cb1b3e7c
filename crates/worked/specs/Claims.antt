-- What the tables of worked examples claim.
use Rattle.std.specs.Prelude.{◌≡◌, ℕ, suc, ◌<◌, ◌≤◌, min, Bool, false, [], ◌∷◌, length, Decides, slice_index_or}
use Rattle.std.specs.List.{AllByRecursion}
use Rattle.logic.specs.States.{state_at}
use Rattle.logic.specs.Logic.{true', signal, until, at', Holds, Reads, strong}
use Rattle.logic.specs.Lawful.{LawfulRecord, NominalTaken, ReferenceUnfit}
use Rattle.logic.specs.Tables.{OrderlyTable, tree, loose}
use Rattle.labels.specs.Dated.{dated}
use Rattle.worked.specs.Examples.{Labelled, Raising, Offered, plain, called, labels, further_labels, raisings, offers, further_offers}

-- The expected number is the label by its meaning: it has both readings of the formula at every truncation point up to 256,
-- where points past the last state read as that state does. The log is lawful and the table orderly, and the formula not loose.
pub record RightLabel (k : Labelled) : Type 0 where
  pub lawful : LawfulRecord k.states
  pub orderly : OrderlyTable k.table
  pub formula_there : k.formula < length k.table
  pub closed : loose k.table k.formula ≡ false
  pub state_there : (1 ≤ k.state) × (k.state ≤ length k.states)
  pub readings : (r : Bool) (c : ℕ) → 0 < c → c ≤ 256 →
      Decides (dated k.expected r c) (Reads r (state_at k.states) (min c (length k.states)) 0 k.state (tree k.table k.formula))

-- An expectation is raised at exactly those states at which the condition holds strongly when they are the last.
pub record RightRaising (k : Raising) : Type 0 where
  pub lawful : LawfulRecord k.states
  pub orderly : OrderlyTable k.table
  pub condition_there : k.condition < length k.table
  pub exactly : (p : ℕ) → p < length k.states →
      Decides (slice_index_or k.raised p false) (Reads strong (state_at k.states) (suc p) 0 (suc p) (tree k.table k.condition))

-- The state is refused for a taken nominal or an unfit reference exactly as said.
pub record RightRefusal (k : Offered) : Type 0 where
  pub nominal : Decides k.nominal_taken (NominalTaken (state_at k.states) k.state)
  pub reference : Decides k.reference_unfit (ReferenceUnfit (state_at k.states) k.state)

-- What no truncation point ever decides is so or not on an endless trace all the same.
pub record EndlessExamples : Type 0 where
  -- signal 0 is on for ever and signal 1 never is: `signal 0 until signal 1` does not hold, for it has to be met
  pub never_met : Holds (λ i. plain 1) 0 1 (until (signal 0) (signal 1)) → ⊥
  pub met : Holds (state_at (plain 1 ∷ plain 1 ∷ plain 2 ∷ [])) 0 1 (until (signal 0) (signal 1))
  -- no state ever carries nominal 1: `at 1 true` does not hold, for there has to be such a state
  pub never_named : Holds (λ i. plain 1) 0 1 (at' 1 true') → ⊥
  pub named : Holds (state_at (plain 1 ∷ called 0 1 ∷ [])) 0 1 (at' 1 true')

pub record WorkedExamples : Type 0 where
  pub right_labels : AllByRecursion RightLabel labels
  pub right_raisings : AllByRecursion RightRaising raisings
  pub right_refusals : AllByRecursion RightRefusal offers

pub record FurtherExamples : Type 0 where
  pub right_labels : AllByRecursion RightLabel further_labels
  pub right_refusals : AllByRecursion RightRefusal further_offers
