use Rattle.worked.proofs.Right.{further_examples_lem}
use Rattle.worked.proofs.further_examples.Goals as goal

pub returns-clause-right : goal.returns-clause-right
returns-clause-right c = further_examples_lem
