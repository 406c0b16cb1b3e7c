use Rattle.std.proofs.Common.{◌∙◌, arith, rules, length-set}
use Rattle.table.proofs.Orders.{array_orderly, array_flagged, array_ruled}
use Rattle.table.proofs.draft.Draft.add_formula.Goals as goal

pub invariant_of-self-clause-flags : goal.invariant_of-self-clause-flags
invariant_of-self-clause-flags c = let d = c.args.self.now in length-set d.loose d.count c.is_loose.result ∙ d.flags

pub invariant_of-self-clause-orderly : goal.invariant_of-self-clause-orderly
invariant_of-self-clause-orderly c =
    let d = c.args.self.now in
    array_orderly d.formulas d.loose d.count _ c.is_loose.result (omega arith) (omega arith) d.orderly (search rules, search rules)

pub invariant_of-self-clause-flagged : goal.invariant_of-self-clause-flagged
invariant_of-self-clause-flagged c =
    let d = c.args.self.now in
    array_flagged d.formulas d.loose d.count _ c.is_loose.result (omega arith) (omega arith) d.orderly (search rules, search rules) c.is_loose.ensures d.flagged

pub invariant_of-self-clause-ruled : goal.invariant_of-self-clause-ruled
invariant_of-self-clause-ruled c =
    let d = c.args.self.now in
    array_ruled d.formulas d.loose d.count _ c.is_loose.result (omega arith) (omega arith) d.orderly _ d.ruled
