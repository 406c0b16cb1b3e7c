use Rattle.std.proofs.Common.{rules}
use Rattle.fields.proofs.Shown.{later, over, at_end, missing}
use Rattle.rulelines.proofs.Showing.{no_rule_line}
use Rattle.rulelines.proofs.rules.numbers_of.Goals as goal

pub returns-in_err-condition : goal.returns-in_err-condition
returns-in_err-condition c =
    rw c.from_residual-in_err-condition.ensures (no_rule_line _ c.args.line.now c.of-fields.ensures (λ i r f. later c.in_ok-number.ensures.read.took (missing c.in_err-condition.ensures.read f.condition)))

pub returns-in_err-content : goal.returns-in_err-content
returns-in_err-content c =
    rw c.from_residual-in_err-content.ensures (no_rule_line _ c.args.line.now c.of-fields.ensures (λ i r f. later c.in_ok-number.ensures.read.took (later c.in_ok-condition.ensures.read.took (missing c.in_err-content.ensures.read f.content))))

pub returns : goal.returns
returns c =
    at_end _ c.is_at_end.result _ c.then_some.result c.is_at_end.ensures c.then_some.ensures
    (λ n. no_rule_line _ c.args.line.now c.of-fields.ensures (λ i r f. later c.in_ok-number.ensures.read.took (later c.in_ok-condition.ensures.read.took (later c.in_ok-content.ensures.read.took (over n)))))
    (λ e. search rules)
