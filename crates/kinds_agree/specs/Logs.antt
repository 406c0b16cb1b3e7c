-- The small logs, by number, and the table with all operators.
use Rattle.std.specs.Prelude.{◌≡◌, ℕ, ◌/◌, ◌%◌, Bool, cond, List, [], ◌∷◌, ◌==◌, Ok, Err, Result}
use Rattle.logic.specs.declared.types.Formula.{Formula}
use Rattle.logic.specs.declared.types.Formula.TheVariants.{True, Signal, Nominal, Not, And, Or, Next, Previous, Until, Since, At, Variable, Reference as Refers, Bind, Some as SomeOf}
use Rattle.logic.specs.declared.types.Reference.{Reference}
use Rattle.logic.specs.declared.types.Rule.{Rule}
use Rattle.logic.specs.declared.types.State.{State}
use Rattle.logic.specs.States.{no_reference}
use Rattle.table.specs.Tables.{formulas_in, rules_in}
use Rattle.table.specs.declared.defects.Defect.{Defect}
use Rattle.table.specs.declared.finished.Table.{Table}

-- none, two of kind 1, and one of kind 2
abbrev pub referring : (digit : ℕ) → Reference
referring digit =
    cond (digit == 1) (record { kind = 1; target = 1 })
    (cond (digit == 2) (record { kind = 1; target = 2 })
    (cond (digit == 3) (record { kind = 2; target = 1 }) no_reference))

-- a state with these signals, with nominal 1 or none, and with a first reference
abbrev pub small : (signals : ℕ) → (named : Bool) → (first : Reference) → State
small signals named first = record { signals = signals; nominal = cond named 1 0; first = first; second = no_reference }

-- the log with number k: the digits of k in base 4 are the signals of the states, the state with the nominal, and the reference
abbrev pub numbered : (k : ℕ) → List State
numbered k =
    small (k % 4) (k / 64 % 4 == 1) no_reference
    ∷ small (k / 4 % 4) (k / 64 % 4 == 2) no_reference
    ∷ small (k / 16 % 4) (k / 64 % 4 == 3) (referring (k / 256 % 4))
    ∷ []

abbrev pub full_formulas : List Formula
full_formulas =
    True ∷ Signal 0 ∷ Signal 1 ∷ Nominal 1 ∷ Not 1 ∷ And 1 2 ∷ Or 1 3 ∷ Next 1 ∷ Previous 2 ∷ Until 1 2 ∷ Since 2 1 ∷ At 1 7
    ∷ Variable ∷ Refers 1 ∷ Until 0 13 ∷ Bind 14 ∷ And 12 1 ∷ Since 0 16 ∷ SomeOf 1 17 ∷ Until 7 11 ∷ Not 9 ∷ Next 19 ∷ []

abbrev pub full_rule : Rule
full_rule = record { condition = 1; content = 9 }

-- the table is made, and not refused
abbrev pub FullTable : Result Table Defect → Type 0
FullTable (Ok t) = (formulas_in t ≡ full_formulas) × (rules_in t ≡ full_rule ∷ [])
FullTable (Err why) = ⊥
