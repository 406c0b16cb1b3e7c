use Rattle.growth.proofs.Growing.{labels_mean_lem}
use Rattle.growth.proofs.labels_mean.Goals as goal

pub returns : goal.returns
returns c = labels_mean_lem
