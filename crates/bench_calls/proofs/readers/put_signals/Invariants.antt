use Rattle.std.proofs.Common.{◌≡◌, map, take}
use Rattle.bench_calls.specs.Memory.{over}
use Rattle.bench_calls.proofs.readers.put_signals.Given as goal

abbrev pub invariant-loop-k : goal.invariant-loop-k
invariant-loop-k g l = l.signals ≡ over (map (λ q. q.signals) (take l.k (g.R.Readable.states l.log))) l.fn.signals
