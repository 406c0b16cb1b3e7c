use Rattle.logic.proofs.Beginnings.{traces_begin_lem}
use Rattle.logic.proofs.laws.traces_begin.Goals as goal

pub returns : goal.returns
returns c = traces_begin_lem
