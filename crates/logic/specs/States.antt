-- Records of states, and the traces that they begin. States are numbered from 1.
use Rattle.std.specs.Prelude.{◌≡◌, ℕ, zero, suc, ◌≤◌, List, [], ◌∷◌, ◌++◌, length, slice_index_or}
use Rattle.logic.specs.declared.types.Reference.{Reference}
use Rattle.logic.specs.declared.types.State.{State}

-- what a state has in the place of a reference that it does not have
abbrev pub no_reference : Reference
no_reference = record { kind = 0; target = 0 }

-- the state in which every number is 0: what a record answers for a state that it does not hold
abbrev pub blank : State
blank = record { signals = 0; nominal = 0; first = no_reference; second = no_reference }

-- an endless trace: a state for each number from 1 on
abbrev pub Trace : Type 0
Trace = ℕ → State

-- state i of a record; as a trace, the record's states and blank ones after them
abbrev pub state_at : List State → Trace
state_at xs zero = blank
state_at xs (suc p) = slice_index_or xs p blank

-- two traces have the same states up to truncation point c
abbrev pub Agree : (c : ℕ) → Trace → Trace → Type 0
Agree c s u = (i : ℕ) → 1 ≤ i → i ≤ c → s i ≡ u i

-- a trace begins with the states of a record
abbrev pub Begins : List State → Trace → Type 0
Begins xs u = Agree (length xs) (state_at xs) u

-- the first n states of a trace, as a record
abbrev pub firsts : (n : ℕ) → Trace → List State
firsts zero u = []
firsts (suc n) u = firsts n u ++ u (suc n) ∷ []
