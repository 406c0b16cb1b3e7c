use Rattle.std.proofs.Common.{◌+◌, ◌-◌, ◌≡◌, sym, ap, ◌∙◌, arith}
use Rattle.std.proofs.lemmas.Bool.{cond-false, le-ltb}
use Rattle.labelling.specs.Rows.{prior}
use Rattle.labelling.proofs.Cells.{cell_read}
use Rattle.labelling.proofs.Fills.{prior_next, prior_none}
use Rattle.labelling.proofs.rows.label_before.Goals as goal

pub returns-then-p-eq0 : goal.returns-then-p-eq0
returns-then-p-eq0 g c e k lo hi =
    let reads = g.K.LabelKind.reads in
    c.false_from.ensures e k lo hi ∙ cond-false _ _ _ (le-ltb k 1 (omega arith)) ∙ sym (ap (λ q. prior reads c.args.row.now q e k) c.if-p-eq0.true ∙ prior_none reads c.args.row.now e k)

pub returns-else-p-eq0 : goal.returns-else-p-eq0
returns-else-p-eq0 g c e k lo hi =
    let reads = g.K.LabelKind.reads in
    let row = c.args.row.now in
    let back : c.args.p ≡ c.args.p - 1 + 1 = omega arith in
    sym (ap (λ q. prior reads row q e k) back ∙ prior_next reads row (c.args.p - 1) e k ∙ cell_read reads row (c.args.p - 1) c.index-row-p.result (omega arith) c.index-row-p.is e k)
