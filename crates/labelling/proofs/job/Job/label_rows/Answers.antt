use Rattle.std.proofs.Common.{arith}
use Rattle.labelling.proofs.Publishes.{label_of}
use Rattle.labelling.proofs.job.Job.label_rows.Goals as goal

pub returns-clause-labels : goal.returns-clause-labels
returns-clause-labels g c =
    let job = c.args.self.now in
    label_of g.K.LabelKind.reads g.K.LabelKind.reach job.n (job.states.now) job.table.now job.flags.now c.label_table.new.cells c.publish.new.cells
    job.count job.flagged c.label_table.ensures.told c.publish.ensures (omega (arith, c.requires.1, c.publish.auto.cells))
