use Rattle.std.proofs.Common.{◌≡◌, length, None, ap, ap₂, rules}
use Rattle.answers.specs.declared.types.Call.TheVariants.{TallyOf}
use Rattle.answers.specs.declared.types.Answer.TheVariants.{Counts}
use Rattle.answers.specs.Answers.{outcome, refused_by}
use Rattle.monitor.specs.Book.{ground_in}
use Rattle.table.proofs.Orders.{in_order}
use Rattle.monitor.proofs.Faithfuls.{tally_right}
use Rattle.monitor.proofs.live.Monitor.tally.Goals as goal

pub returns-clause-is : goal.returns-clause-is
returns-clause-is g c =
    let m = c.args.self.now in
    let xs = g.R.Readable.states m.log in
    let own : m.book.count ≡ length xs = search rules in
    let taken : None ≡ refused_by m.book.count (ground_in m.book (g.R.Growing.room m.log)) xs (TallyOf c.args.rule) = search rules in
    let right = tally_right xs m.book (in_order m.book.table) own (m.faithful own) c.args.rule (search rules) in
    ap₂ outcome taken right

pub returns-clause-told : goal.returns-clause-told
returns-clause-told g c =
    let m = c.args.self.now in
    let xs = g.R.Readable.states m.log in
    let own : m.book.count ≡ length xs = search rules in
    let taken : None ≡ refused_by m.book.count (ground_in m.book (g.R.Growing.room m.log)) xs (TallyOf c.args.rule) = search rules in
    let right = tally_right xs m.book (in_order m.book.table) own (m.faithful own) c.args.rule (search rules) in
    ap₂ outcome taken (ap Counts right)
