use Rattle.std.proofs.Common.{zero, suc, [], ◌∷◌, refl, arith}
use Rattle.logic.specs.Tables.{OrderlyTable, loose, tree, tree_to}
use Rattle.table.specs.Order.{EachRuled}
use Rattle.table.specs.Tables.{MakesTable}
use Rattle.customer.specs.Slot.{slot_formulas, slot_rule}
use Rattle.customer.proofs.slot.slot_table.Goals as goal

orderly : OrderlyTable slot_formulas
orderly zero h = (omega arith, tt)
orderly (suc zero) h = (omega arith, tt)
orderly (suc (suc zero)) h = (tt, omega arith)
orderly (suc (suc (suc f))) h = absurd (omega arith)

ruled : EachRuled slot_formulas (slot_rule ∷ [])
unfolding loose tree tree_to
ruled zero h = ((omega arith, omega arith), refl, refl)
ruled (suc r) h = absurd (omega arith)

makes : MakesTable slot_formulas (slot_rule ∷ [])
makes = (record { few = omega arith; orderly = orderly; short = omega arith; ruled = ruled }, omega arith, omega arith)

pub returns : goal.returns
returns c = let h = c.of.ensures.possible.1 makes in grind arith
