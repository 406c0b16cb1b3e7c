use Rattle.std.proofs.Common.{length, arith, ◌+◌}
use Rattle.labels.specs.Readings.{seen}
use Rattle.labelling.specs.Rows.{prior}
use Rattle.labelling.proofs.Fills.{filled_by}
use Rattle.labelling.proofs.Tellings.{tells_previous}
use Rattle.labelling.proofs.rows.label_previous.Goals as goal

pub returns : goal.returns
returns g c =
    let k = g.K.LabelKind in
    let own = c.fill_row.new.own in
    let a = c.args.a.now in
    record {
      told = λ s v f ta.
          tells_previous k.reads k.reach (length c.args.own.now) s v own (omega arith) f a ta
          (λ q e j less. filled_by k.reads k.reach (λ p. seen (p + 1) (prior k.reads a p)) own (λ p d fits. c.fill_row.ensures.filled p d (omega arith)) q e j (omega arith));
    }
