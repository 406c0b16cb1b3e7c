use Rattle.std.proofs.Common.{arith}
use Rattle.monitor.specs.Book.{ground_in}
use Rattle.monitor.proofs.Appending.{refused_next}
use Rattle.monitor.proofs.live.Monitor.admit.Goals as goal

pub returns : goal.returns
returns g c =
    let m = c.args.self.now in
    refused_next m.book.count (ground_in m.book (g.R.Growing.room m.log)) (g.R.Readable.states m.log) c.args.state (omega arith) (omega arith) (omega arith) c.next_unlawful.result c.next_unlawful.ensures
