-- What the labels of a record mean, and how they grow with it.
use Rattle.std.specs.Prelude.{◌≡◌, ℕ, ◌<◌, ◌≤◌, min, Bool, true, false, ◌⊎◌, ◌↔◌, List, [], ◌∷◌, ◌++◌, length}
use Rattle.labels.specs.Readings.{Reading}
use Rattle.labels.specs.Dated.{dated}
use Rattle.labels.specs.declared.dated.Dated.{Dated}
use Rattle.logic.specs.declared.types.Formula.{Formula}
use Rattle.logic.specs.declared.types.State.{State}
use Rattle.logic.specs.States.{Trace, state_at, Begins}
use Rattle.logic.specs.Lawful.{Lawful, LawfulRecord}
use Rattle.logic.specs.Logic.{Reads, Holds, weak, strong}
use Rattle.logic.specs.Tables.{tree, loose}
use Rattle.labelling.specs.Whole.{Means}
use Rattle.expectations.specs.declared.types.Label.{Label}
use Rattle.expectations.specs.declared.types.Label.TheVariants.{Unknown, TrueFrom, FalseFrom}
use Rattle.expectations.specs.declared.types.Verdict.{Verdict}
use Rattle.expectations.specs.declared.types.Verdict.TheVariants as is
use Rattle.expectations.specs.Expectations.{verdict}
use Rattle.expectations.specs.Laws.{InOrder, Grows}
use Rattle.growth.specs.Growth.{label_of_number, labels_of}

-- a verdict is right of a formula that holds weakly if `Weak` and strongly if `Strong`
pub record Right (answer : Verdict) (Weak Strong : Type 0) : Type 0 where
  pub when_true : (answer ≡ is.True) ↔ Strong
  pub when_false : (answer ≡ is.False) ↔ (Weak → ⊥)
  pub when_unknown : (answer ≡ is.Unknown) ↔ (Weak × (Strong → ⊥))

-- A label over at most 256 lawful states has the right verdict at every truncation point up to 256. A point after the last
-- state keeps all states, so it reads as the last.
abbrev pub LabelsMean : Type 0
LabelsMean = (table : List Formula) (xs : List State) (f i : ℕ) → length xs ≤ 256 → LawfulRecord xs → 1 ≤ i → i ≤ length xs →
    (c : ℕ) → 1 ≤ c → c ≤ 256 →
    Right (verdict (labels_of table xs f i) c)
    (Reads weak (state_at xs) (min c (length xs)) 0 i (tree table f))
    (Reads strong (state_at xs) (min c (length xs)) 0 i (tree table f))

-- A decided label is right of every lawful endless trace that begins with the record, whatever the variable is bound to; for a
-- loose formula, where it is bound to no state.
abbrev pub LabelsAreSound : Type 0
LabelsAreSound = (table : List Formula) (xs : List State) (f i : ℕ) → length xs ≤ 256 → 1 ≤ i → i ≤ length xs →
    (u : Trace) → Begins xs u → Lawful u → (v : ℕ) → (loose table f ≡ false) ⊎ (v ≡ 0) → (d : ℕ) →
    (labels_of table xs f i ≡ TrueFrom d → Holds u v i (tree table f)) ×
    (labels_of table xs f i ≡ FalseFrom d → Holds u v i (tree table f) → ⊥)

-- With one more state, a label that was decided is the same, from the same point on; any other is unknown, or decided from the
-- new state on.
abbrev pub LabelsGrow : Type 0
LabelsGrow = (table : List Formula) (xs : List State) (x : State) → length xs < 256 → LawfulRecord (xs ++ x ∷ []) →
    Grows (length xs) (labels_of table xs) (labels_of table (xs ++ x ∷ []))

-- no verdict is dated after point n
abbrev pub NotAfter : ℕ → Label → Type 0
NotAfter n Unknown = Unit {0}
NotAfter n (TrueFrom d) = d ≤ n
NotAfter n (FalseFrom d) = d ≤ n

-- No label of a state is dated before it, and none after the last state.
abbrev pub LabelsInOrder : Type 0
LabelsInOrder = (table : List Formula) (xs : List State) → length xs ≤ 256 →
    InOrder (length xs) (labels_of table xs) ×
    ((f i : ℕ) → 1 ≤ i → i ≤ length xs → NotAfter (length xs) (labels_of table xs f i))

-- A dated label that means a formula is the formula's label.
abbrev pub CellsAreLabels : Type 0
CellsAreLabels = (table : List Formula) (xs : List State) (f i : ℕ) → length xs ≤ 256 → LawfulRecord xs → 1 ≤ i → i ≤ length xs →
    (x : Dated) → Means (λ (y : Dated). dated y.value) 256 xs 0 i (tree table f) x → label_of_number x.value ≡ labels_of table xs f i

-- whether a verdict's formula holds, weakly at true and strongly at false: it is true where both hold, false where neither
-- does, and unknown where only the weak one does
abbrev pub read_as : Verdict → Bool → Bool
read_as is.True r = true
read_as is.False r = false
read_as is.Unknown r = r

-- A label of any kind that means a formula reads as the formula's label does, at every truncation point up to the kind's length
-- and 256.
abbrev pub KindsAgree : {K : Type 0} → (K → Reading) → (reach : ℕ) → Type 0
KindsAgree {K} reads reach = (table : List Formula) (xs : List State) (f i : ℕ) → length xs ≤ 256 → LawfulRecord xs → 1 ≤ i → i ≤ length xs →
    (x : K) → Means reads reach xs 0 i (tree table f) x →
    (c : ℕ) → 1 ≤ c → c ≤ reach → c ≤ 256 → (r : Bool) → reads x r c ≡ read_as (verdict (labels_of table xs f i) c) r
