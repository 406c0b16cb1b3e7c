use Rattle.monitor.proofs.Wholes.{whole_agrees}
use Rattle.monitor.proofs.live.Monitor.label_record.Goals as goal

pub returns-clause-agrees : goal.returns-clause-agrees
returns-clause-agrees g c =
    let m = c.args.self.now in
    let w = c.label_whole in
    whole_agrees g.K.LabelKind.reads g.K.LabelKind.reach m.book (g.R.Growing.room m.log) (g.R.Readable.states m.log) c.args.labels.now c.args.work.now w.new.labels w.new.work w.result w.ensures
