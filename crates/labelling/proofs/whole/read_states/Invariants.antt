use Rattle.std.proofs.Common.{◌≡◌, take}
use Rattle.labelling.proofs.whole.read_states.Given as goal

-- the rows so far are the states
abbrev pub invariant-loop-p : goal.invariant-loop-p
invariant-loop-p g l = take l.p l.states ≡ take l.p (g.R.Readable.states l.log)
