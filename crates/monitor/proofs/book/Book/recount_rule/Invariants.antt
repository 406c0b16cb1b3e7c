use Rattle.std.proofs.Common.{◌≡◌, ◌≢◌, ◌-◌, ℕ, get_or}
use Rattle.expectations.specs.Expectations.{no_tally, tallied}
use Rattle.logic.specs.Tables.{no_rule}
use Rattle.monitor.specs.Book.{held, rules_in, SameButTallies}
use Rattle.monitor.proofs.book.Book.recount_rule.Given as goal

abbrev pub invariant-loop-state : goal.invariant-loop-state
invariant-loop-state l =
    record {
      same : SameButTallies l.fn.self l.self;
      so_far : get_or l.self.tallies l.r no_tally ≡ tallied (held l.self) (get_or (rules_in l.self) l.r no_rule) l.self.count (l.state - 1);
      others : (k : ℕ) → k ≢ l.r → get_or l.self.tallies k no_tally ≡ get_or l.fn.self.tallies k no_tally;
    }
