use Rattle.std.proofs.Common.{ap, ◌∙◌, arith}
use Rattle.bench_calls.proofs.Overs.{over_step}
use Rattle.bench_calls.proofs.in_strips.put_masks.Goals as goal

pub loop-k-preserved : goal.loop-k-preserved
loop-k-preserved c =
    let cell = c.index-cells-k.result in (
      over_step (λ x. x.weak) c.args.cells.now c.args.weak.now c.loop-k.weak c.loop-k.k cell _ (omega arith) (omega arith) c.loop-k.invariant.0 (c.weak.ensures ∙ ap (λ x. x.weak) c.index-cells-k.is),
      over_step (λ x. x.strong) c.args.cells.now c.args.strong.now c.loop-k.strong c.loop-k.k cell _ (omega arith) (omega arith) c.loop-k.invariant.1 (c.strong.ensures ∙ ap (λ x. x.strong) c.index-cells-k.is),
    )
