use Rattle.std.proofs.Common.{◌+◌}
use Rattle.logic.specs.States.{state_at}
use Rattle.lawful.proofs.Seen.{Passed}
use Rattle.lawful.proofs.first_unlawful.Given as goal

abbrev pub invariant-loop-p : goal.invariant-loop-p
invariant-loop-p g l = Passed (state_at (g.R.Readable.states l.log)) (l.p + 1) l.seen
