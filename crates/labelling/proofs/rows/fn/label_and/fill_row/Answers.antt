use Rattle.labelling.proofs.Cells.{cell_read}
use Rattle.labelling.proofs.rows.fn.label_and.fill_row.Goals as goal

pub returns : goal.returns
returns g c e k lo hi =
    let reads = g.K.LabelKind.reads in
    let x = cell_read reads c.captures.a.now c.args.p c.index-a-p.result c.requires.0 c.index-a-p.is e k in
    let y = cell_read reads c.captures.b.now c.args.p c.index-b-p.result c.requires.1 c.index-b-p.is e k in
    let z = c.and.ensures e k lo hi in
    cc
