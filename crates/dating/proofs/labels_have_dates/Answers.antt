use Rattle.dating.proofs.Ranged.{labels_have_dates_lem}
use Rattle.dating.proofs.labels_have_dates.Goals as goal

pub returns : goal.returns
returns c = labels_have_dates_lem
