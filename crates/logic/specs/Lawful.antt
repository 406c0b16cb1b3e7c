-- Which states may stand in a trace.
use Rattle.std.specs.Prelude.{◌≡◌, ℕ, ◌<◌, ◌≤◌, ◌⊎◌, List, length}
use Rattle.logic.specs.declared.types.Reference.{Reference}
use Rattle.logic.specs.declared.types.State.{State}
use Rattle.logic.specs.States.{Trace, state_at}

-- the nominal of state i stands on an earlier state
abbrev pub NominalTaken : Trace → ℕ → Type 0
NominalTaken s i = (0 < (s i).nominal) × ((j : ℕ) × (1 ≤ j) × (j < i) × ((s j).nominal ≡ (s i).nominal))

-- a reference that state i may not have: of a kind above 15, of kind 0 with a target, or of another kind with a target that
-- is 0 or not an earlier state
abbrev pub Unfit : Reference → (i : ℕ) → Type 0
Unfit l i = (15 < l.kind) ⊎ (((l.kind ≡ 0) × (0 < l.target)) ⊎ ((0 < l.kind) × ((l.target ≡ 0) ⊎ (i ≤ l.target))))

abbrev pub ReferenceUnfit : Trace → ℕ → Type 0
ReferenceUnfit s i = Unfit (s i).first i ⊎ Unfit (s i).second i

-- state i may follow the states before it
abbrev pub Fit : Trace → ℕ → Type 0
Fit s i = (NominalTaken s i → ⊥) × (ReferenceUnfit s i → ⊥)

-- the first n states are lawful; an endless trace is lawful if they all are
abbrev pub LawfulTo : (n : ℕ) → Trace → Type 0
LawfulTo n s = (i : ℕ) → 1 ≤ i → i ≤ n → Fit s i

abbrev pub Lawful : Trace → Type 0
Lawful s = (i : ℕ) → 1 ≤ i → Fit s i

abbrev pub LawfulRecord : List State → Type 0
LawfulRecord xs = LawfulTo (length xs) (state_at xs)
