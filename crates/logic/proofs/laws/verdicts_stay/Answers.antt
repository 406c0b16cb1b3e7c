use Rattle.logic.proofs.Verdicts.{verdicts_stay_lem}
use Rattle.logic.proofs.laws.verdicts_stay.Goals as goal

pub returns : goal.returns
returns c = verdicts_stay_lem
