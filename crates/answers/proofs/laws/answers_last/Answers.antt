use Rattle.answers.proofs.Lasting.{lasts}
use Rattle.answers.proofs.laws.answers_last.Goals as goal

pub returns : goal.returns
returns c = lasts
