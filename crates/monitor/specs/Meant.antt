-- What the answers over accepted states mean.
use Rattle.std.specs.Prelude.{◌≡◌, ℕ, ◌<◌, ◌≤◌, List, length, Err, slice_index_or}
use Rattle.logic.specs.declared.types.State.{State}
use Rattle.logic.specs.States.{Trace, state_at, Begins}
use Rattle.logic.specs.Lawful.{Lawful}
use Rattle.logic.specs.Logic.{Tree, Reads, weak, strong}
use Rattle.logic.specs.Tables.{no_rule}
use Rattle.refusals.specs.declared.Refusal.{Refusal}
use Rattle.refusals.specs.declared.Refusal.TheVariants as refusal
use Rattle.lawful.specs.Unlawful.{MayNotFollow}
use Rattle.expectations.specs.declared.types.Verdict.{Verdict}
use Rattle.expectations.specs.declared.types.Standing.{Standing}
use Rattle.expectations.specs.declared.types.Standing.TheVariants.{NotRaised, Pending, Fulfilled, Violated}
use Rattle.growth.specs.Laws.{Right}
use Rattle.answers.specs.declared.types.Call.TheVariants.{Append}
use Rattle.answers.specs.Answers.{Ground, told}
use Rattle.answers.specs.Law.{LabelIs, StandingIs}

-- a formula holds weakly, or strongly, at state i of the states xs as point c reads it, with the variable bound to no state
abbrev pub HoldsWeakly : List State → Tree → (i c : ℕ) → Type 0
HoldsWeakly xs φ i c = Reads weak (state_at xs) c 0 i φ

abbrev pub HoldsStrongly : List State → Tree → (i c : ℕ) → Type 0
HoldsStrongly xs φ i c = Reads strong (state_at xs) c 0 i φ

-- What a standing at point c says of the expectation of state i, by the readings of the rule's condition and of its content. It is
-- not raised if the condition does not hold strongly at its state's own point; otherwise it is raised, and then it is open if the
-- content holds weakly and not strongly at c; fulfilled at d if it holds strongly at d and at no earlier point from i on; violated
-- at d if it does not hold weakly at d and does at every earlier point from i on.
abbrev pub Expects : List State → (condition content : Tree) → (i c : ℕ) → Standing → Type 0
Expects xs condition content i c NotRaised = HoldsStrongly xs condition i i → ⊥
Expects xs condition content i c Pending =
    HoldsStrongly xs condition i i × HoldsWeakly xs content i c × (HoldsStrongly xs content i c → ⊥)
Expects xs condition content i c (Fulfilled d) =
    HoldsStrongly xs condition i i × (i ≤ d) × (d ≤ c) × HoldsStrongly xs content i d ×
    ((e : ℕ) → i ≤ e → e < d → HoldsStrongly xs content i e → ⊥)
Expects xs condition content i c (Violated d) =
    HoldsStrongly xs condition i i × (i ≤ d) × (d ≤ c) × (HoldsWeakly xs content i d → ⊥) ×
    ((e : ℕ) → i ≤ e → e < d → HoldsWeakly xs content i e)

-- why an append is refused after the accepted states xs
abbrev pub AppendRefused : Ground → List State → State → Refusal → Type 0
AppendRefused G xs x refusal.TooManyStates = 256 ≤ length xs
AppendRefused G xs x refusal.RecordFull = (length xs < 256) × (G.capacity ≤ length xs)
AppendRefused G xs x why = (length xs < G.capacity) × MayNotFollow xs x why

-- What the answers over the accepted states xs mean: a verdict is true, false or unknown by the weak and the strong reading of
-- its formula; a standing says what the readings of its rule's formulas do; and an append is refused for what its refusal says.
pub record Meant (G : Ground) (xs : List State) : Type 0 where
  pub verdicts : (f i c : ℕ) (v : Verdict) → LabelIs G xs f i c v → Right v (HoldsWeakly xs (G.trees f) i c) (HoldsStrongly xs (G.trees f) i c)
  pub standings : (r i c : ℕ) (s : Standing) → StandingIs G xs r i c s →
      Expects xs (G.trees (slice_index_or G.rules r no_rule).condition) (G.trees (slice_index_or G.rules r no_rule).content) i c s
  pub appends : (x : State) (why : Refusal) → told G xs (Append x) ≡ Err why → AppendRefused G xs x why

-- some lawful endless trace begins with the states, so what is said of all of them is not empty
abbrev pub GoesOn : List State → Type 0
GoesOn xs = (u : Trace) × Lawful u × Begins xs u
