use Rattle.expectations.proofs.Stays.{tallies_grow_lem}
use Rattle.expectations.proofs.laws.tallies_grow.Goals as goal

pub returns : goal.returns
returns c = tallies_grow_lem
