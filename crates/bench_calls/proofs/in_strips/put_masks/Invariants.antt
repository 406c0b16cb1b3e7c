use Rattle.std.proofs.Common.{◌≡◌, map, take}
use Rattle.bench_calls.specs.Memory.{over}
use Rattle.bench_calls.proofs.in_strips.put_masks.Given as goal

abbrev pub invariant-loop-k : goal.invariant-loop-k
invariant-loop-k l =
    (l.weak ≡ over (map (λ x. x.weak) (take l.k l.cells)) l.fn.weak) × (l.strong ≡ over (map (λ x. x.strong) (take l.k l.cells)) l.fn.strong)
