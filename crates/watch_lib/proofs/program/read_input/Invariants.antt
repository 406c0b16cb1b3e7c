use Rattle.std.proofs.Common.{◌≤◌, length}
use Rattle.watch_lib.proofs.program.read_input.Given as goal

abbrev pub invariant-loop : goal.invariant-loop
invariant-loop l = l.count ≤ length l.buffer
