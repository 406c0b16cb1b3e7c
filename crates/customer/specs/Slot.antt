-- The table of the slot's rule.
use Rattle.std.specs.Prelude.{◌≡◌, List, [], ◌∷◌, Ok, Err, Result}
use Rattle.logic.specs.declared.types.Formula.{Formula}
use Rattle.logic.specs.declared.types.Formula.TheVariants.{Signal, Next}
use Rattle.logic.specs.declared.types.Rule.{Rule}
use Rattle.table.specs.Tables.{formulas_of, rules_of}
use Rattle.table.specs.declared.defects.Defect.{Defect}
use Rattle.table.specs.declared.finished.Table.{Table}

-- signal 0 is that the slot is taken, and signal 1 that it is freed
abbrev pub slot_formulas : List Formula
slot_formulas = Signal 0 ∷ Signal 1 ∷ Next 1 ∷ []

-- when it is taken, it is freed at the next state
abbrev pub slot_rule : Rule
slot_rule = record { condition = 0; content = 2 }

-- the table is made, and not refused
abbrev pub SlotTable : Result Table Defect → Type 0
SlotTable (Ok t) = (formulas_of t.draft ≡ slot_formulas) × (rules_of t.draft ≡ slot_rule ∷ [])
SlotTable (Err why) = ⊥
