use Rattle.std.proofs.Common.{min}
use Rattle.logic.specs.States.{state_at}
use Rattle.logic.specs.Logic.{Reads, some'}
use Rattle.logic.specs.Tables.{tree}
use Rattle.labelling.specs.Bound.{ClosedTold}
use Rattle.labelling.proofs.Decisions.{DecidedTo}
use Rattle.labelling.proofs.job.Binder.label_some.Given as goal

abbrev pub invariant-loop-p : goal.invariant-loop-p
invariant-loop-p g l =
    let k = g.K.LabelKind in
    let job = l.self.job.now in
    let s = state_at job.states.now in
    ClosedTold k.reads k.reach job.n s job.table.now l.before l.self.f
    × DecidedTo k.reads k.reach (λ i e c. Reads e s (min c job.n) 0 i (some' l.kind (tree job.table.now l.self.part))) l.own l.p
