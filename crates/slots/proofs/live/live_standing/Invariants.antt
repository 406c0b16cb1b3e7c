use Rattle.std.proofs.Common.{◌≡◌, ◌+◌}
use Rattle.monitor.specs.Live.{states_of, ground_of, Own}
use Rattle.slots.specs.Instances.{slots, log_to}
use Rattle.slots.proofs.live.live_standing.Given as goal

abbrev pub invariant-loop-state : goal.invariant-loop-state
invariant-loop-state l = record {
  ground : ground_of l.monitor ≡ slots;
  states : states_of l.monitor ≡ log_to (3 + l.state-index);
  own : Own l.monitor;
}
