use Rattle.expectations.proofs.Once.{happens_once}
use Rattle.expectations.proofs.laws.notices_happen_once.Goals as goal

pub returns : goal.returns
returns c = happens_once
