use Rattle.logic.proofs.Rows as rows
use Rattle.logic.proofs.laws.trees_unfold.Goals as goal

pub returns : goal.returns
returns c = rows.trees_unfold_lem
