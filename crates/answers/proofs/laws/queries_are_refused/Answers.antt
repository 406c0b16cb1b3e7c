use Rattle.answers.proofs.Queried.{queries_refused_lem}
use Rattle.answers.proofs.laws.queries_are_refused.Goals as goal

pub returns : goal.returns
returns c = queries_refused_lem
