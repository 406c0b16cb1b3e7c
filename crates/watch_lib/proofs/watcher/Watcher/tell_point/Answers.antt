use Rattle.std.proofs.Common.{arith}
use Rattle.std.proofs.lemmas.List.{take_all}
use Rattle.monitor.specs.Live.{table_rules}
use Rattle.watch_lib.proofs.watcher.Watcher.tell_point.Goals as goal

pub returns : goal.returns
returns g c = rw (take_all c.loop-rule.rule (table_rules c.args.self.now.monitor) (omega arith)) at c.loop-rule.invariant
