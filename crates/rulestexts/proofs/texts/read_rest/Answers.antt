use Rattle.std.proofs.Common.{rules}
use Rattle.std.proofs.lemmas.Result.{err_from_is_err_and}
use Rattle.rulestexts.proofs.Joined.{rules_stop, rules_whole}
use Rattle.rulestexts.proofs.texts.read_rest.Goals as goal

pub returns-in_err-rules : goal.returns-in_err-rules
returns-in_err-rules c =
    let p = err_from_is_err_and c.from_residual.result c.from_residual.ensures.1 in
    rw (p.1, p.2) (rules_stop c.args.text.now c.args.formulas c.requires.0 c.requires.1 _ c.in_err-rules.ensures)

pub returns : goal.returns
returns c = rules_whole c.args.text.now c.args.formulas c.requires.0 c.requires.1 c.in_ok-rules.rules c.in_ok-table.table.draft c.in_ok-rules.ensures (search rules)
