use Rattle.logic.proofs.Verdicts.{strong_is_weak_lem}
use Rattle.logic.proofs.laws.strong_is_weak.Goals as goal

pub returns : goal.returns
returns c = strong_is_weak_lem
