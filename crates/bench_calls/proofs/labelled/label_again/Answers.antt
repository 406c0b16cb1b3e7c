use Rattle.bench_calls.proofs.Labellings.{once_more}
use Rattle.bench_calls.proofs.labelled.label_again.Goals as goal

pub loop-preserved : goal.loop-preserved
loop-preserved g c =
    once_more g.K.LabelKind.reads g.K.LabelKind.reach _ _ _ _ c.loop.cells c.loop.work _ _ c.label_whole-in-loop.result c.loop.invariant c.label_whole-in-loop.ensures
