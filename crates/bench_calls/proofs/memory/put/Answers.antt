use Rattle.std.proofs.Common.{◌++◌, length, drop, refl, ap, ◌∙◌}
use Rattle.bench_calls.proofs.Overs.{over_all}
use Rattle.bench_calls.proofs.memory.put.Goals as goal

pub returns : goal.returns
returns c =
    let memory = c.args.memory.now in
    let bytes = c.args.bytes.now in
    (c.if-n-memory.false, refl, ap (λ z. z ++ drop (length bytes) memory) c.copy_from_slice.ensures.after ∙ over_all bytes memory c.if-n-memory.false)
