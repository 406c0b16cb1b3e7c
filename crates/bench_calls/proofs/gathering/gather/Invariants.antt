use Rattle.std.proofs.Common.{◌≡◌, ◌++◌}
use Rattle.textrecord.specs.Left.{states_left}
use Rattle.textrecord.specs.Listed.{states_of}
use Rattle.bench_calls.proofs.gathering.gather.Given as goal

abbrev pub invariant-loop-state : goal.invariant-loop-state
invariant-loop-state g l = (g.R.Growing.room l.log ≡ 256) × (g.R.Readable.states l.log ++ states_left l.state-iterator ≡ states_of l.text)
