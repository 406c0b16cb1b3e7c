use Rattle.std.proofs.Common.{◌≤◌}
use Rattle.growth.specs.Growth.{labels_of}
use Rattle.monitor.specs.Book.{formulas_in}
use Rattle.published.proofs.Dating.{OpenTo}
use Rattle.published.proofs.asking.label_of.Given as goal

abbrev pub invariant-loop-point : goal.invariant-loop-point
invariant-loop-point g l =
    (l.state ≤ l.point) × OpenTo (labels_of (formulas_in l.monitor.book) (g.R.Readable.states l.monitor.log) l.formula l.state) l.state l.point
