use Rattle.worked.proofs.Endless.{endless_examples_lem}
use Rattle.worked.proofs.endless_examples.Goals as goal

pub returns : goal.returns
returns c = endless_examples_lem
