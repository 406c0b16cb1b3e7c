use Rattle.std.proofs.Common.{◌≡◌, ◌*◌, length, drop}
use Rattle.monitor.specs.Live.{record_labels, table_rules, states_of}
use Rattle.watch_lib.specs.Sums.{plus, summed, Few}
use Rattle.watch_lib.proofs.watcher.Watcher.end_line.Given as goal

abbrev pub invariant-loop-k : goal.invariant-loop-k
invariant-loop-k g l =
    let n = length (states_of l.self.monitor) in
    let labels = record_labels l.self.monitor in
    let rules = table_rules l.self.monitor in
    (plus l.tally (summed labels n (drop l.k rules)) ≡ summed labels n rules) × Few (256 * l.k) l.tally
