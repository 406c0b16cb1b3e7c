use Rattle.std.proofs.Common.{◌≡◌, length, arith, rules}
use Rattle.monitor.specs.Live.{record_labels, states_of, tally_at}
use Rattle.watch_lib.proofs.Adding.{tally_few}
use Rattle.watch_lib.proofs.watcher.Watcher.tally_of.Goals as goal

pub returns-clause-few : goal.returns-clause-few
returns-clause-few g c =
    let m = c.args.self.now.monitor in
    let e : c.unwrap_or_default.result ≡ tally_at m c.args.rule = search rules in
    tally_few (record_labels m) _ (length (states_of m)) _ e (omega (arith, m.book.short, c.args.self.now.own))
