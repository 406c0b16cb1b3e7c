use Rattle.dating.proofs.Reading.{labels_read_lem}
use Rattle.dating.proofs.labels_read.Goals as goal

pub returns : goal.returns
returns c = labels_read_lem
