use Rattle.std.proofs.Common.{◌≡◌, ◌-◌, ◌++◌, map, vec_items}
use Rattle.expectations.specs.Expectations.{from_state}
use Rattle.monitor.specs.Live.{record_labels, rule_at}
use Rattle.watch_lib.specs.declared.lines.Line.TheVariants.{Told}
use Rattle.watch_lib.proofs.watcher.Watcher.tell_rule.Given as goal

abbrev pub invariant-loop-state : goal.invariant-loop-state
invariant-loop-state g l =
    vec_items l.lines ≡ vec_items l.initial.lines ++ map (Told l.point) (from_state (record_labels l.self.monitor) l.point l.rule (rule_at l.self.monitor l.rule) (l.state - 1) 1)
