use Rattle.logic.proofs.Beginnings.{lawful_by_beginnings_lem}
use Rattle.logic.proofs.laws.lawful_by_beginnings.Goals as goal

pub returns : goal.returns
returns c = lawful_by_beginnings_lem
