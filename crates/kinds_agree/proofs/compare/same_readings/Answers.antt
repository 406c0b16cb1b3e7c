use Rattle.std.proofs.Common.{◌≡◌, ◌-◌, Some, arith}
use Rattle.std.proofs.iter.runs.Sources.{ranges}
use Rattle.std.proofs.lemmas.Grind.{common_steps}
use Rattle.kinds_agree.proofs.compare.same_readings.Goals as goal

pub returns-clause-told : goal.returns-clause-told
returns-clause-told g c = λ long also t e k lo hi.
    let run = c.all.ensures.runs in
    let reached : run.0.at (k - 1) ≡ Some k = grind (arith, ranges, common_steps) in
    grind (arith, common_steps, run.2)
