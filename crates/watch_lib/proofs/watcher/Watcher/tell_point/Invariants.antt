use Rattle.std.proofs.Common.{◌≡◌, ◌++◌, map, take, vec_items}
use Rattle.expectations.specs.Expectations.{from_rule}
use Rattle.monitor.specs.Live.{record_labels, table_rules}
use Rattle.watch_lib.specs.declared.lines.Line.TheVariants.{Told}
use Rattle.watch_lib.proofs.watcher.Watcher.tell_point.Given as goal

abbrev pub invariant-loop-rule : goal.invariant-loop-rule
invariant-loop-rule g l =
    vec_items l.lines ≡ vec_items l.initial.lines ++ map (Told l.point) (from_rule (record_labels l.self.monitor) l.point 0 (take l.rule (table_rules l.self.monitor)))
