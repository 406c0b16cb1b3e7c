use Rattle.std.proofs.Common.{arith}
use Rattle.labelling.proofs.plain.decide_row.Goals as goal

pub returns : goal.returns
returns g c = record { decided = λ p d less. c.fill_row.ensures.filled p d (omega arith) }
