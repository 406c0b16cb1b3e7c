use Rattle.std.proofs.Common.{List, length, sym, ◌∙◌, subst, arith}
use Rattle.labels.specs.declared.dated.Dated.{Dated}
use Rattle.table.specs.declared.finished.Table.{Table}
use Rattle.table.specs.Tables.{formulas_of}
use Rattle.table.proofs.Orders.{in_order}
use Rattle.labelling.specs.Whole.{Labelled}
use Rattle.monitor.specs.Book.{formulas_in}
use Rattle.monitor.proofs.Followed.{dates, right_after, enough, not_declined}
use Rattle.monitor.proofs.book.Book.follow.Goals as goal

pub returns-in-Ok-clause-followed : goal.returns-in-Ok-clause-followed
returns-in-Ok-clause-followed g c law small =
    let xs = g.R.Readable.states c.args.log.now in
    let old = c.args.self.now in
    let b = c.recount.new.self in
    let same = c.recount.ensures.same in
    let done = c.in-Ok.ensures in
    let labelled : Labelled dates 256 (formulas_in b) xs old.cells old.work b.cells c.label_whole.new.work =
    subst (λ (t : Table). Labelled dates 256 (formulas_of t.draft) xs old.cells old.work b.cells c.label_whole.new.work) (sym same.0)
    (subst (λ (ys : List Dated). Labelled dates 256 (formulas_of old.table.draft) xs old.cells old.work ys c.label_whole.new.work) (sym same.2) done.1) in
    let p = enough (length (formulas_in b)) (length xs) (in_order b.table).few small in
    let counted = same.1 ∙ done.0 in
    (counted, right_after xs b old.cells old.work c.label_whole.new.work labelled counted small (omega (arith, b.wide)) c.recount.ensures.right)

pub returns-in_default-clause-followed : goal.returns-in_default-clause-followed
returns-in_default-clause-followed g c law small =
    let old = c.args.self.now in
    absurd (not_declined (formulas_of old.table.draft) (g.R.Readable.states c.args.log.now) (length old.cells) (length old.work) (in_order old.table).few small law old.wide old.spare c.in_default.field-0 c.in_default.ensures.0)
