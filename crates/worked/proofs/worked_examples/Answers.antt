use Rattle.worked.proofs.Right.{worked_examples_lem}
use Rattle.worked.proofs.worked_examples.Goals as goal

pub returns-clause-right : goal.returns-clause-right
returns-clause-right c = worked_examples_lem
