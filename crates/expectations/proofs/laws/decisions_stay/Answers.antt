use Rattle.expectations.proofs.Stays.{decisions_stay_lem}
use Rattle.expectations.proofs.laws.decisions_stay.Goals as goal

pub returns : goal.returns
returns c = decisions_stay_lem
