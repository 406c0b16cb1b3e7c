use Rattle.std.proofs.Common.{ℕ, ◌<◌, get_or}
use Rattle.labelling.proofs.rows.fill_row.Given as goal

abbrev pub invariant-loop-p : goal.invariant-loop-p
invariant-loop-p g l = (k : ℕ) (d : g.row.K.Denot) → k < l.p → goal.F-post g l.label k (get_or l.own k d)
