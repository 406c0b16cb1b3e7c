use Rattle.growth.proofs.Growing.{labels_in_order_lem}
use Rattle.growth.proofs.labels_in_order.Goals as goal

pub returns : goal.returns
returns c = labels_in_order_lem
