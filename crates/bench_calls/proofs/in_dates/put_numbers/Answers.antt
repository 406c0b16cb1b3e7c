use Rattle.std.proofs.Common.{ap, ◌∙◌, arith}
use Rattle.std.proofs.lemmas.Int.{to_z-of_z, ints}
use mir.Val.{SFits}
use mir.Syntax.{w16}
use Rattle.bench_calls.proofs.Overs.{over_step}
use Rattle.bench_calls.proofs.in_dates.put_numbers.Goals as goal

pub loop-k-preserved : goal.loop-k-preserved
loop-k-preserved c =
    let cell = c.index-cells-k.result in
    let fits : SFits w16 c.value.result = omega (arith, ints, c.value.ensures, cell.low, cell.high) in
    over_step (λ x. x.value) c.args.cells.now c.args.labels.now c.loop-k.labels c.loop-k.k cell _ (omega arith) (omega arith) c.loop-k.invariant
    (to_z-of_z w16 c.value.result fits ∙ c.value.ensures ∙ ap (λ x. x.value) c.index-cells-k.is)
