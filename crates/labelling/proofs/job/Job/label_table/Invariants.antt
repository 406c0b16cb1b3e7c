use Rattle.logic.specs.States.{state_at}
use Rattle.labelling.specs.Bound.{ClosedTold}
use Rattle.labelling.proofs.job.Job.label_table.Given as goal

abbrev pub invariant-loop-f : goal.invariant-loop-f
invariant-loop-f g l =
    let job = l.self in
    ClosedTold g.K.LabelKind.reads g.K.LabelKind.reach job.n (state_at job.states.now) job.table.now l.cells l.f
