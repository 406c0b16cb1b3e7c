use Rattle.logic.proofs.Looses.{binding_free}
use Rattle.logic.proofs.laws.binding_is_free.Goals as goal

pub returns : goal.returns
returns c = binding_free
