use Rattle.std.proofs.Common.{◌≡◌, false, Some, arith}
use Rattle.std.proofs.iter.runs.Sources.{ranges}
use Rattle.std.proofs.lemmas.Grind.{common_steps}
use Rattle.lawful.proofs.Joins.{taken_joined}
use Rattle.lawful.proofs.is_taken.Goals as goal

pub returns-then-state-gt0 : goal.returns-then-state-gt0
returns-then-state-gt0 g c =
    let run = c.any.ensures.runs in
    taken_joined (g.R.Readable.states c.args.log.now) c.args.state c.any.result (
      (λ found. (c.if-state-gt0.true, grind (arith, ranges, run.2))),
      (λ taken.
          let reached : c.any.result ≡ false → run.0.at taken.1.0 ≡ Some taken.1.0 = λ missed. grind (arith, ranges, common_steps) in
          grind (arith, common_steps, run.2, reached)),
    )
