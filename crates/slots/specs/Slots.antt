-- The table of the slot's rule, the log of a double free, and when an expectation is still violated.
use Rattle.std.specs.Prelude.{◌≡◌, ℕ, ◌^◌, ◌<◌, List, [], ◌∷◌, Ok, Err, Result}
use Rattle.expectations.specs.declared.types.Standing.{Standing}
use Rattle.expectations.specs.declared.types.Standing.TheVariants.{NotRaised, Pending, Fulfilled, Violated}
use Rattle.logic.specs.declared.types.Formula.{Formula}
use Rattle.logic.specs.declared.types.Formula.TheVariants.{Signal, Not, Until, Next}
use Rattle.logic.specs.declared.types.Rule.{Rule}
use Rattle.logic.specs.declared.types.State.{State}
use Rattle.logic.specs.States.{no_reference}
use Rattle.table.specs.Tables.{formulas_in, rules_in}
use Rattle.table.specs.declared.defects.Defect.{Defect}
use Rattle.table.specs.declared.finished.Table.{Table}

-- signal 0 is that the slot is taken, and signal 1 that it is freed
abbrev pub slot_formulas : List Formula
slot_formulas = Signal 0 ∷ Signal 1 ∷ Not 0 ∷ Until 2 1 ∷ Next 3 ∷ []

-- when it is taken, it is then not taken until it is freed
abbrev pub slot_rule : Rule
slot_rule = record { condition = 0; content = 4 }

-- the table is made, and not refused
abbrev pub SlotTable : Result Table Defect → Type 0
SlotTable (Ok t) = (formulas_in t ≡ slot_formulas) × (rules_in t ≡ slot_rule ∷ [])
SlotTable (Err why) = ⊥

-- the state at which this signal alone is on
abbrev pub shown : (signal : ℕ) → State
shown signal = record { signals = 2 ^ signal; nominal = 0; first = no_reference; second = no_reference }

-- at state 4 the slot is taken again before it was freed
abbrev pub double_free_log : List State
double_free_log = shown 0 ∷ shown 1 ∷ shown 0 ∷ shown 0 ∷ shown 1 ∷ shown 0 ∷ []

-- the decision is dated before the truncation point
abbrev pub ViolatedBefore : (point : ℕ) → Standing → Type 0
ViolatedBefore point NotRaised = ⊥
ViolatedBefore point Pending = ⊥
ViolatedBefore point (Fulfilled date) = ⊥
ViolatedBefore point (Violated date) = date < point
