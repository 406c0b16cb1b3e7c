use Rattle.std.proofs.Common.{◌≡◌, ℕ, ◌≤◌}
use Rattle.labelling.specs.Bound.{Published}
use Rattle.labelling.specs.Rows.{row}
use Rattle.labelling.proofs.job.Job.publish.Given as goal

-- the rows that are still to come are those of the working memory
abbrev pub invariant-loop-f : goal.invariant-loop-f
invariant-loop-f g l =
    Published g.K.LabelKind.reads g.K.LabelKind.reach l.self.n l.self.flags.now l.work l.cells l.f
    × ((k : ℕ) → l.f ≤ k → row l.self.n k l.cells ≡ row l.self.n k l.work)
