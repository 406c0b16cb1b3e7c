use Rattle.std.proofs.Common.{◌≡◌, map, take}
use Rattle.bench_calls.specs.Memory.{over}
use Rattle.bench_calls.proofs.in_dates.put_numbers.Given as goal

abbrev pub invariant-loop-k : goal.invariant-loop-k
invariant-loop-k l = l.labels ≡ over (map (λ x. x.value) (take l.k l.cells)) l.fn.labels
