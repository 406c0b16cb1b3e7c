-- Rows of labels that tell of formulas.
use Rattle.std.specs.Prelude.{◌≡◌, ℕ, ◌+◌, ◌<◌, ◌≤◌, min, Bool, true, false, List, length, Option, Decides, MatchOption, slice_index_or}
use Rattle.labels.specs.Readings.{Reading, Same, fixed}
use Rattle.logic.specs.declared.types.State.{State}
use Rattle.logic.specs.declared.types.Formula.{Formula}
use Rattle.logic.specs.declared.types.Formula.TheVariants.{True, Signal, Nominal, Variable, Reference}
use Rattle.logic.specs.States.{Trace}
use Rattle.logic.specs.Lawful.{LawfulTo}
use Rattle.logic.specs.Logic.{Tree, at', Shows, Carries, Refers, Nameless, Reads}
use Rattle.labelling.specs.Rows.{at}

-- A row of labels, one for each of the first n states, tells of a formula: at every state and every truncation point up to
-- the kind's length it gives both readings. A point after the last state keeps all n states, so it reads as point n does;
-- and past the row, as past the point, a formula is unknown.
abbrev pub Tells : {K : Type 0} → (K → Reading) → (reach n : ℕ) → Trace → (v : ℕ) → Tree → List K → Type 0
Tells reads reach n s v φ xs = (e : Bool) (c i : ℕ) → 0 < c → c ≤ reach → 0 < i → Decides (at reads xs i e c) (Reads e s (min c n) v i φ)

-- a new row tells of an operator over a formula, in every trace and whatever the formula is, where a row tells of the formula
abbrev pub Applied : {K : Type 0} → (K → Reading) → (reach n : ℕ) → (Tree → Tree) → (a own : List K) → Type 0
Applied reads reach n op a own = (s : Trace) (v : ℕ) (φ : Tree) → Tells reads reach n s v φ a → Tells reads reach n s v (op φ) own

-- a new row tells of an operator over two formulas where two rows tell of them
abbrev pub Combined : {K : Type 0} → (K → Reading) → (reach n : ℕ) → (Tree → Tree → Tree) → (a b own : List K) → Type 0
Combined reads reach n op a b own =
    (s : Trace) (v : ℕ) (φ ψ : Tree) → Tells reads reach n s v φ a → Tells reads reach n s v ψ b → Tells reads reach n s v (op φ ψ) own

-- each label of a row is decided from its own state on, as an answer for its place says
abbrev pub DecidedRow : {K : Type 0} → (K → Reading) → (reach : ℕ) → (Answers : (p : ℕ) → Bool → Type 0) → List K → Type 0
DecidedRow {K} reads reach Answers xs = (p : ℕ) (d : K) → p < length xs → (b : Bool) × Answers p b × Same reach (reads (slice_index_or xs p d)) (fixed (p + 1) b)

-- of the first n states, the one that carries nominal a, if there is one
abbrev pub NamedState : Trace → (n a : ℕ) → Option ℕ → Type 0
NamedState s n a named = MatchOption named (Nameless s n a) (λ i. (1 ≤ i) × (i ≤ n) × Carries (s i) a)

-- a new row tells of a formula at the state that carries a nominal, where a row tells of the formula; the nominal's state is named
abbrev pub AppliedAt : {K : Type 0} → (K → Reading) → (reach n : ℕ) → (named : Option ℕ) → (a own : List K) → Type 0
AppliedAt reads reach n named a own =
    (s : Trace) (v name : ℕ) (φ : Tree) → LawfulTo n s → NamedState s n name named → Tells reads reach n s v φ a → Tells reads reach n s v (at' name φ) own

-- whether a formula has no parts
abbrev pub leaf : Formula → Bool
leaf True = true
leaf (Signal b) = true
leaf (Nominal a) = true
leaf Variable = true
leaf (Reference a) = true
leaf _ = false

-- a formula without parts holds in state i, which is q, with the variable bound to v
abbrev pub Here : Formula → State → (v i : ℕ) → Type 0
Here True q v i = Unit {0}
Here (Signal b) q v i = Shows q b
Here (Nominal a) q v i = Carries q a
Here Variable q v i = i ≡ v
Here (Reference a) q v i = Refers q a v
Here _ q v i = ⊥
