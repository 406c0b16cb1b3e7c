use Rattle.expectations.proofs.Once.{has_one_date_lem}
use Rattle.expectations.proofs.laws.notices_have_one_date.Goals as goal

pub returns : goal.returns
returns c = has_one_date_lem
