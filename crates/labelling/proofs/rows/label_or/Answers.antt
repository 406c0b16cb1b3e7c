use Rattle.std.proofs.Common.{length, arith}
use Rattle.labels.specs.Readings.{either}
use Rattle.labelling.specs.Rows.{cell}
use Rattle.labelling.proofs.Fills.{filled_by}
use Rattle.labelling.proofs.Tellings.{tells_or}
use Rattle.labelling.proofs.rows.label_or.Goals as goal

pub returns : goal.returns
returns g c =
    let k = g.K.LabelKind in
    let own = c.fill_row.new.own in
    let a = c.args.a.now in
    let b = c.args.b.now in
    record {
      told = λ s v f h ta tb.
          tells_or k.reads k.reach (length c.args.own.now) s v own (omega arith) f a ta h b tb
          (λ q e j less. filled_by k.reads k.reach (λ p. either (cell k.reads a p) (cell k.reads b p)) own (λ p d fits. c.fill_row.ensures.filled p d (omega arith)) q e j (omega arith));
    }
