-- One field is answered, so that the check tries each of the others by itself.
use Rattle.std.proofs.Common.{refl}
use Rattle.table.proofs.draft.Draft.new.Goals as goal

pub invariant_of-result-clause-wide : goal.invariant_of-result-clause-wide
invariant_of-result-clause-wide c = refl
