use Rattle.std.proofs.Common.{◌+◌, length, arith}
use Rattle.logic.proofs.Uniques.{unique}
use Rattle.labels.specs.Readings.{seen}
use Rattle.labelling.proofs.Fills.{filled_by}
use Rattle.labelling.proofs.Tellings.{tells_named}
use Rattle.labelling.proofs.rows.label_named.Goals as goal

pub returns : goal.returns
returns g c =
    let k = g.K.LabelKind in
    let n = length c.args.own.now in
    let own = c.fill_row.new.own in
    let there = k.reads c.label_in-there.result in
    record {
      told = λ s v name f law is ta.
          tells_named k.reads k.reach n s v own (omega arith) f c.args.a.now ta name c.args.named there (unique n s law) is c.label_in-there.ensures
          (λ q e j less. filled_by k.reads k.reach (λ p. seen (p + 1) there) own (λ p d fits. c.fill_row.ensures.filled p d (omega arith)) q e j (omega arith));
    }
