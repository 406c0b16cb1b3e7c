use Rattle.std.proofs.Common.{length, arith}
use Rattle.labels.specs.Readings.{negated}
use Rattle.labelling.specs.Rows.{cell}
use Rattle.labelling.proofs.Fills.{filled_by}
use Rattle.labelling.proofs.Tellings.{tells_not}
use Rattle.labelling.proofs.rows.label_not.Goals as goal

pub returns : goal.returns
returns g c =
    let k = g.K.LabelKind in
    let own = c.fill_row.new.own in
    let a = c.args.a.now in
    record {
      told = λ s v f ta.
          tells_not k.reads k.reach (length c.args.own.now) s v own (omega arith) f a ta
          (λ q e j less. filled_by k.reads k.reach (λ p. negated (cell k.reads a p)) own (λ p d fits. c.fill_row.ensures.filled p d (omega arith)) q e j (omega arith));
    }
