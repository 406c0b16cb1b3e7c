use Rattle.labelling.proofs.Fills.{UntilKept}
use Rattle.labelling.proofs.rows.label_until.Given as goal

abbrev pub invariant-loop-p : goal.invariant-loop-p
invariant-loop-p g l = UntilKept g.K.LabelKind.reads g.K.LabelKind.reach l.a l.b l.own l.next l.p
