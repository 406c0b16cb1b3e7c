use Rattle.growth.proofs.Growing.{kinds_agree_lem}
use Rattle.growth.proofs.kinds_agree.Goals as goal

pub returns : goal.returns
returns g c = kinds_agree_lem _ _
