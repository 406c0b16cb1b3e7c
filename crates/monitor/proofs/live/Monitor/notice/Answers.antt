use Rattle.std.proofs.Common.{◌≡◌, length, None, ap, ap₂, arith, rules}
use Rattle.std.specs.List.{slice_get}
use Rattle.expectations.specs.Expectations.{notices}
use Rattle.answers.specs.declared.types.Call.TheVariants.{NoticeOf}
use Rattle.answers.specs.declared.types.Answer.TheVariants.{Tells}
use Rattle.answers.specs.Answers.{outcome, refused_by}
use Rattle.monitor.specs.Book.{held, rules_in, ground_in}
use Rattle.table.proofs.Orders.{in_order}
use Rattle.monitor.proofs.Faithfuls.{notices_right}
use Rattle.monitor.proofs.live.Monitor.notice.Goals as goal

pub returns-clause-is : goal.returns-clause-is
returns-clause-is g c =
    let m = c.args.self.now in
    let xs = g.R.Readable.states m.log in
    let own : m.book.count ≡ length xs = search rules in
    let taken : None ≡ refused_by m.book.count (ground_in m.book (g.R.Growing.room m.log)) xs (NoticeOf c.args.point c.args.k) = search rules in
    let found : c.notice.result ≡ slice_get (notices (held m.book) (rules_in m.book) c.args.point) c.args.k = search rules in
    let right = notices_right xs m.book (in_order m.book.table) own (m.faithful own) c.args.point (omega arith) in
    ap₂ outcome taken (rw right at found)

pub returns-clause-told : goal.returns-clause-told
returns-clause-told g c =
    let m = c.args.self.now in
    let xs = g.R.Readable.states m.log in
    let own : m.book.count ≡ length xs = search rules in
    let taken : None ≡ refused_by m.book.count (ground_in m.book (g.R.Growing.room m.log)) xs (NoticeOf c.args.point c.args.k) = search rules in
    let found : c.notice.result ≡ slice_get (notices (held m.book) (rules_in m.book) c.args.point) c.args.k = search rules in
    let right = notices_right xs m.book (in_order m.book.table) own (m.faithful own) c.args.point (omega arith) in
    ap₂ outcome taken (ap Tells (rw right at found))
