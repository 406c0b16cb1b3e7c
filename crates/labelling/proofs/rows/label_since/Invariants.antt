use Rattle.labelling.proofs.Fills.{SinceKept}
use Rattle.labelling.proofs.rows.label_since.Given as goal

abbrev pub invariant-loop-p : goal.invariant-loop-p
invariant-loop-p g l = SinceKept g.K.LabelKind.reads g.K.LabelKind.reach l.a l.b l.own l.carried l.p
