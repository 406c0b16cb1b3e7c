use Rattle.std.proofs.Common.{zero, suc, [], ◌∷◌, refl, arith}
use Rattle.logic.specs.Tables.{loose, tree, tree_to}
use Rattle.table.specs.Order.{EachRuled}
use Rattle.table.specs.Tables.{MakesTable}
use Rattle.kinds_agree.specs.Logs.{full_formulas, full_rule}
use Rattle.kinds_agree.proofs.Orders.{OrderlyFrom, orderly_from}
use Rattle.kinds_agree.proofs.formulas.full_table.Goals as goal

full_orderly : OrderlyFrom 0 full_formulas
full_orderly = search arith

full_ruled : EachRuled full_formulas (full_rule ∷ [])
unfolding loose tree tree_to
full_ruled zero h = ((omega arith, omega arith), refl, refl)
full_ruled (suc r) h = absurd (omega arith)

full_makes : MakesTable full_formulas (full_rule ∷ [])
full_makes = (record { few = omega arith; orderly = orderly_from full_formulas full_orderly; short = omega arith; ruled = full_ruled }, omega arith, omega arith)

pub returns : goal.returns
returns c = let h = c.of.ensures.possible.1 full_makes in grind arith
