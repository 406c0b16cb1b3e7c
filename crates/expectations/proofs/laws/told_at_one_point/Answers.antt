use Rattle.expectations.proofs.Once.{told_at_one_point_lem}
use Rattle.expectations.proofs.laws.told_at_one_point.Goals as goal

pub returns : goal.returns
returns c = told_at_one_point_lem
