use Rattle.std.proofs.Common.{◌≤◌}
use Rattle.example_logs.proofs.main.Given as goal

abbrev pub invariant-loop-name : goal.invariant-loop-name
invariant-loop-name l = l.as_written ≤ l.name-index
