use Rattle.monitor.specs.Book.{SameButTallies, TalliesRight}
use Rattle.monitor.proofs.book.Book.recount.Given as goal

abbrev pub invariant-loop-r : goal.invariant-loop-r
invariant-loop-r l = SameButTallies l.initial.self l.self × TalliesRight l.self l.r
