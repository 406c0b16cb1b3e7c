use Rattle.labelling.proofs.Cones.{ConeFrom}
use Rattle.labelling.proofs.job.Job.cone.Given as goal

abbrev pub invariant-loop-g : goal.invariant-loop-g
invariant-loop-g l = ConeFrom l.self.table.now l.self.flags.now l.wanted l.a l.g
