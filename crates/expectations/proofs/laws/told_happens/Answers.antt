use Rattle.expectations.proofs.Once.{told_happens_lem}
use Rattle.expectations.proofs.laws.told_happens.Goals as goal

pub returns : goal.returns
returns c = told_happens_lem
