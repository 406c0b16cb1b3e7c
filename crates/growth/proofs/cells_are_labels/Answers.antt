use Rattle.growth.proofs.Growing.{cells_are_labels_lem}
use Rattle.growth.proofs.cells_are_labels.Goals as goal

pub returns : goal.returns
returns c = cells_are_labels_lem
