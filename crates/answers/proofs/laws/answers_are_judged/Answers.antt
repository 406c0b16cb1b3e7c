use Rattle.answers.proofs.Judging.{judged}
use Rattle.answers.proofs.laws.answers_are_judged.Goals as goal

pub returns : goal.returns
returns c = judged
