use Rattle.std.proofs.Common.{ℕ, ◌<◌, get_or}
use Rattle.labels.specs.Readings.{Same, opened}
use Rattle.labelling.proofs.rows.clear.Given as goal

abbrev pub invariant-loop-cell : goal.invariant-loop-cell
invariant-loop-cell g l = (k : ℕ) (d : g.row.K.Denot) → k < l.cell-index → Same g.K.LabelKind.reach (g.K.LabelKind.reads (get_or l.cells k d)) opened
