use Rattle.std.proofs.Common.{◌≡◌, ◌+◌, ◌-◌, ◌++◌, drop, None}
use Rattle.std.specs.List.{slice_get, flat_map}
use Rattle.std.specs.Option.{option_to_list}
use Rattle.expectations.specs.Expectations.{notices, from_state, from_rule}
use Rattle.monitor.specs.Book.{held, rules_in}
use Rattle.monitor.proofs.book.Book.notice.Given as goal

abbrev pub invariant-found : goal.invariant-found
invariant-found l =
    (slice_get (from_rule (held l.self) l.point l.r (drop l.r (rules_in l.self))) l.more ≡ slice_get (notices (held l.self) (rules_in l.self) l.point) l.k)
    × (l.told ≡ None)

abbrev pub invariant-loop-state : goal.invariant-loop-state
invariant-loop-state l =
    (slice_get (from_state (held l.self) l.point l.r l.rule (l.point + 1 - l.state) l.state ++ from_rule (held l.self) l.point (l.r + 1) (drop (l.r + 1) (rules_in l.self))) l.more ≡ slice_get (notices (held l.self) (rules_in l.self) l.point) l.k)
    × (l.told ≡ None)

abbrev pub invariant-loop-event : goal.invariant-loop-event
invariant-loop-event l =
    (slice_get (flat_map option_to_list (drop l.event-index l.event-items) ++ (from_state (held l.self) l.point l.r l.rule (l.point + 1 - (l.state + 1)) (l.state + 1) ++ from_rule (held l.self) l.point (l.r + 1) (drop (l.r + 1) (rules_in l.self)))) l.more ≡ slice_get (notices (held l.self) (rules_in l.self) l.point) l.k)
    × (l.told ≡ None)
