use Rattle.std.proofs.Common.{zero, suc, [], ◌∷◌, refl, arith}
use Rattle.logic.specs.Tables.{OrderlyTable, loose, tree, tree_to}
use Rattle.table.specs.Order.{EachRuled}
use Rattle.table.specs.Tables.{MakesTable}
use Rattle.any_list.specs.Replies.{reply_formulas, reply_rule}
use Rattle.any_list.proofs.rule.reply_table.Goals as goal

reply_orderly : OrderlyTable reply_formulas
reply_orderly zero h = (omega arith, tt)
reply_orderly (suc zero) h = (omega arith, tt)
reply_orderly (suc (suc zero)) h = (tt, omega arith)
reply_orderly (suc (suc (suc zero))) h = (tt, tt)
reply_orderly (suc (suc (suc (suc f)))) h = absurd (omega arith)

reply_ruled : EachRuled reply_formulas (reply_rule ∷ [])
unfolding loose tree tree_to
reply_ruled zero h = ((omega arith, omega arith), refl, refl)
reply_ruled (suc r) h = absurd (omega arith)

reply_makes : MakesTable reply_formulas (reply_rule ∷ [])
reply_makes = (record { few = omega arith; orderly = reply_orderly; short = omega arith; ruled = reply_ruled }, omega arith, omega arith)

pub returns : goal.returns
returns c = let h = c.of.ensures.possible.1 reply_makes in grind arith
