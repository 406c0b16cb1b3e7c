use Rattle.std.proofs.Common.{◌+◌, refl, arith, rules}
use Rattle.std.proofs.lemmas.Result.{err_from_is_err_and}
use Rattle.table.specs.Tables.{formulas_of}
use Rattle.faults.specs.declared.read.ReadFault.TheVariants.{Line}
use Rattle.rulestexts.proofs.Progress.{rules_begin, rules_more, rules_stop, rule_unfit}
use Rattle.rulestexts.proofs.sections.read_rules.Goals as goal

pub returns-in_err-line : goal.returns-in_err-line
returns-in_err-line c =
    let p = err_from_is_err_and c.from_residual-in_err-line.result c.from_residual-in_err-line.ensures.1 in
    rw (p.1, p.2) (rules_stop c.args.text.now (formulas_of c.args.formulas) c.in_ok-head.head.value c.loop-k.k c.loop-k.rest.now c.loop-k.draft c.loop-k.invariant (omega arith) c.args.place (Line _) c.in_err-line.ensures)

pub returns-in_err-join_rule : goal.returns-in_err-join_rule
returns-in_err-join_rule c =
    let p = err_from_is_err_and c.from_residual-in_err-join_rule.result c.from_residual-in_err-join_rule.ensures.1 in
    rw (p.1, p.2) (rule_unfit c.args.text.now (formulas_of c.args.formulas) c.in_ok-head.head.value c.loop-k.k c.loop-k.rest.now c.loop-k.draft c.loop-k.invariant (omega arith) c.args.place c.in_ok-line.line.value c.in_ok-line.line.used _ c.join_rule.new.draft c.in_ok-line.ensures c.in_err-join_rule.ensures)

pub loop-k-preserved : goal.loop-k-preserved
loop-k-preserved c =
    rules_more c.args.text.now (formulas_of c.args.formulas) c.in_ok-head.head.value c.loop-k.k c.loop-k.rest.now c.loop-k.draft c.loop-k.invariant
    c.in_ok-line.line.value c.in_ok-line.line.used (c.args.place + 1 + c.loop-k.k) _ c.in_ok-line.ensures c.in_ok-join_rule.ensures

pub loop-k-init : goal.loop-k-init
loop-k-init c = rules_begin c.args.text.now (formulas_of c.args.formulas) c.in_ok-head.head.value c.in_ok-head.head.used c.args.formulas (search rules) refl c.requires.ruleless
