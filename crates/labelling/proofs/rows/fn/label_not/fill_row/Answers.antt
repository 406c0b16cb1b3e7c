use Rattle.std.proofs.Common.{not}
use Rattle.labelling.proofs.Cells.{cell_read}
use Rattle.labelling.proofs.rows.fn.label_not.fill_row.Goals as goal

pub returns : goal.returns
returns g c e k lo hi =
    let x = cell_read g.K.LabelKind.reads c.captures.a.now c.args.p c.index-a-p.result c.requires c.index-a-p.is (not e) k in
    let z = c.not.ensures e k lo hi in
    cc
