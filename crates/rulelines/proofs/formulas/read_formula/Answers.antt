use Rattle.std.proofs.Common.{rules}
use Rattle.fields.proofs.Judged.{read_meant}
use Rattle.rulelines.specs.Formulas.{formula_kind}
use Rattle.rulelines.specs.Meanings.{meaning}
use Rattle.rulelines.proofs.formulas.read_formula.Goals as goal

pub returns : goal.returns
returns c =
    read_meant (formula_kind c.args.k) _ _ meaning c.args.text.now c.args.place c.read_line.result c.read_line.ensures
    (λ line v φ f r. (v, search rules, search rules))
    (λ line f. search rules)
    (λ line v f r. (v, search rules, search rules, search rules))
