use Rattle.std.proofs.Common.{◌+◌, get_or, drop, arith}
use Rattle.logic.specs.Tables.{no_rule}
use Rattle.expectations.specs.Expectations.{from_rule}
use Rattle.monitor.specs.Book.{held, rules_in}
use Rattle.monitor.proofs.Notices.{state_begins}
use Rattle.monitor.proofs.book.Book.notice.Goals as goal

pub loop-event-init : goal.loop-event-init
loop-event-init c =
    let b = c.args.self.now in
    let r = c.found.r in (
      state_begins (held b) c.args.point r (get_or c.rules-rule-items.result.now r no_rule) c.loop-state.state _ (from_rule (held b) c.args.point (r + 1) (drop (r + 1) (rules_in b))) c.loop-state.more _ (omega arith) c.events-event-items.ensures c.loop-state.invariant.0,
      c.loop-state.invariant.1,
    )
