-- The laws of the logic.
use Rattle.std.specs.Prelude.{◌≡◌, ℕ, ◌≤◌, Bool, false, List, length}
use Rattle.logic.specs.declared.types.State.{State}
use Rattle.logic.specs.States.{Trace, state_at, Agree, Begins, firsts}
use Rattle.logic.specs.Lawful.{LawfulTo, Lawful, LawfulRecord}
use Rattle.logic.specs.Logic.{Tree, Holds, Reads, weak, strong, is_loose}

-- What holds strongly holds weakly.
abbrev pub StrongIsWeak : Type 0
StrongIsWeak = (s : Trace) (c v i : ℕ) (f : Tree) → Reads strong s c v i f → Reads weak s c v i f

-- A verdict at truncation point c stays: whatever lawful states follow, the formula is decided the same at every later point d.
abbrev pub VerdictsStay : Type 0
VerdictsStay = (s u : Trace) (c d v i : ℕ) (f : Tree) → 1 ≤ i → c ≤ d → Agree c s u → LawfulTo d u →
    (Reads strong s c v i f → Reads strong u d v i f) ×
    ((Reads weak s c v i f → ⊥) → Reads weak u d v i f → ⊥)

-- A verdict at truncation point c is right: on every lawful endless trace that begins with the kept states, what holds
-- strongly is true and what does not hold weakly is false.
abbrev pub VerdictsAreSound : Type 0
VerdictsAreSound = (s u : Trace) (c v i : ℕ) (f : Tree) → 1 ≤ i → Agree c s u → Lawful u →
    (Reads strong s c v i f → Holds u v i f) ×
    ((Reads weak s c v i f → ⊥) → Holds u v i f → ⊥)

-- A formula that is not loose reads the same whatever state the variable is bound to.
abbrev pub BindingIsFree : Type 0
BindingIsFree = (s : Trace) (c v w i : ℕ) (r : Bool) (f : Tree) → is_loose f ≡ false → Reads r s c v i f → Reads r s c w i f

-- Every endless trace begins with its first n states, for every n, and there are n of them.
abbrev pub TracesBegin : Type 0
TracesBegin = (u : Trace) (n : ℕ) → (length (firsts n u) ≡ n) × Begins (firsts n u) u

-- An endless trace is lawful exactly if its first n states are a lawful record, for every n.
abbrev pub LawfulByBeginnings : Type 0
LawfulByBeginnings = (u : Trace) →
    (Lawful u → (n : ℕ) → LawfulRecord (firsts n u)) ×
    (((n : ℕ) → LawfulRecord (firsts n u)) → Lawful u)

-- Every lawful record begins a lawful endless trace: the one that goes on with blank states.
abbrev pub LawfulGoesOn : Type 0
LawfulGoesOn = (xs : List State) → LawfulRecord xs → Lawful (state_at xs) × Begins xs (state_at xs)
