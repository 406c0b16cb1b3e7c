use Rattle.std.proofs.Common.{rules}
use Rattle.fields.proofs.Judged.{read_as}
use Rattle.rulelines.specs.Rules.{rule_kind, rule_meant}
use Rattle.rulelines.proofs.rules.read_rule.Goals as goal

pub returns : goal.returns
returns c =
    read_as (rule_kind c.args.k) _ _ (λ u. (c.args.k, u)) c.args.text.now c.args.place c.read_line.result c.read_line.ensures
    (λ line v u f r. search rules)
    (λ line f. search rules)
    (λ line v f r. ((v.number, rule_meant v), search rules, search rules, search rules))
