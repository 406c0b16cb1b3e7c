use Rattle.expectations.proofs.Counts.{tallies_sum_lem}
use Rattle.expectations.proofs.laws.tallies_sum.Goals as goal

pub returns : goal.returns
returns c = tallies_sum_lem
