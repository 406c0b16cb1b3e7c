use Rattle.std.proofs.Common.{zero, suc, [], ◌∷◌, refl, arith}
use Rattle.logic.specs.Tables.{OrderlyTable, loose, tree, tree_to}
use Rattle.table.specs.Order.{EachRuled}
use Rattle.table.specs.Tables.{MakesTable}
use Rattle.slots.specs.Slots.{slot_formulas, slot_rule}
use Rattle.slots.proofs.rule.slot_table.Goals as goal

slot_orderly : OrderlyTable slot_formulas
slot_orderly zero h = (omega arith, tt)
slot_orderly (suc zero) h = (omega arith, tt)
slot_orderly (suc (suc zero)) h = (tt, omega arith)
slot_orderly (suc (suc (suc zero))) h = (tt, (omega arith, omega arith))
slot_orderly (suc (suc (suc (suc zero)))) h = (tt, omega arith)
slot_orderly (suc (suc (suc (suc (suc f))))) h = absurd (omega arith)

slot_ruled : EachRuled slot_formulas (slot_rule ∷ [])
unfolding loose tree tree_to
slot_ruled zero h = ((omega arith, omega arith), refl, refl)
slot_ruled (suc r) h = absurd (omega arith)

slot_makes : MakesTable slot_formulas (slot_rule ∷ [])
slot_makes = (record { few = omega arith; orderly = slot_orderly; short = omega arith; ruled = slot_ruled }, omega arith, omega arith)

pub returns : goal.returns
returns c = let h = c.of.ensures.possible.1 slot_makes in grind arith
