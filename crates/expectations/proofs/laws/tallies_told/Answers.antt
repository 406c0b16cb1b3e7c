use Rattle.expectations.proofs.Counted.{tallies_told_lem}
use Rattle.expectations.proofs.laws.tallies_told.Goals as goal

pub returns : goal.returns
returns c = tallies_told_lem
