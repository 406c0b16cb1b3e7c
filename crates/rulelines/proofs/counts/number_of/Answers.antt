use Rattle.std.proofs.Common.{◌∙◌, rules}
use Rattle.fields.proofs.Parted.{solid_decimal}
use Rattle.fields.proofs.Shown.{later, over, broken, at_end}
use Rattle.rulelines.proofs.counts.number_of.Goals as goal

pub returns : goal.returns
returns c =
    at_end _ c.is_at_end.result c.in_ok-number.number c.then_some.result c.is_at_end.ensures c.then_some.ensures
    (λ n m h e. broken (later c.in_ok-number.ensures.read.took (over n)) tt (solid_decimal m h, tt) (c.of-fields.ensures ∙ e))
    (λ e. search rules)
