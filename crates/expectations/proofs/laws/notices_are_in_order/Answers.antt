use Rattle.expectations.proofs.Order.{notices_in_order}
use Rattle.expectations.proofs.laws.notices_are_in_order.Goals as goal

pub returns : goal.returns
returns c = notices_in_order
