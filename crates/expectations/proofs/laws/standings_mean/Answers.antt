use Rattle.expectations.proofs.Standings.{standings_mean_lem}
use Rattle.expectations.proofs.laws.standings_mean.Goals as goal

pub returns : goal.returns
returns c = standings_mean_lem
