use Rattle.expectations.proofs.Stays.{decisions_last_lem}
use Rattle.expectations.proofs.laws.decisions_last.Goals as goal

pub returns : goal.returns
returns c = decisions_last_lem
