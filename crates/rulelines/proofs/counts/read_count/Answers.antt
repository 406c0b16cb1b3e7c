use Rattle.std.proofs.Common.{rules}
use Rattle.fields.proofs.Judged.{read_as}
use Rattle.keys.specs.Keys.{count_text}
use Rattle.rulelines.specs.Counts.{count_kind}
use Rattle.rulelines.proofs.counts.read_count.Goals as goal

pub returns : goal.returns
returns c =
    read_as (count_kind (count_text c.args.key) c.args.most) _ _ (λ n. n) c.args.text.now c.args.place c.read_line.result c.read_line.ensures
    (λ line v n f r. search rules)
    (λ line f. search rules)
    (λ line v f r. (v, search rules, search rules, search rules))
