use Rattle.growth.proofs.Growing.{labels_grow_lem}
use Rattle.growth.proofs.labels_grow.Goals as goal

pub returns : goal.returns
returns c = labels_grow_lem
