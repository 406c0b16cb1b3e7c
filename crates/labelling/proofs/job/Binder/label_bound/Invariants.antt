use Rattle.logic.specs.States.{state_at}
use Rattle.labelling.proofs.Bounds.{ToldTo}
use Rattle.labelling.proofs.job.Binder.label_bound.Given as goal

abbrev pub invariant-loop-g : goal.invariant-loop-g
invariant-loop-g g l =
    ToldTo g.K.LabelKind.reads g.K.LabelKind.reach l.self.job.now.n (state_at l.self.job.now.states.now) l.self.job.now.table.now l.self.wanted l.v l.before l.self.f l.g
