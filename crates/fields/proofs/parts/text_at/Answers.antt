use Rattle.std.proofs.Common.{ap, rules}
use Rattle.fields.proofs.Parted.{part_at}
use Rattle.fields.proofs.parts.text_at.Goals as goal

pub returns : goal.returns
returns c = part_at c.args.line.now c.args.from c.requires c.place_of.result c.map_or.result.now c.place_of.ensures c.map_or.ensures (λ e. ap (λ z. z.now) e) (λ n p. search rules)
