use Rattle.std.proofs.Common.{length, arith}
use Rattle.labelling.proofs.Fills.{since_start, since_split}
use Rattle.labelling.proofs.Tellings.{tells_since}
use Rattle.labelling.proofs.rows.label_since.Goals as goal

pub loop-p-init : goal.loop-p-init
loop-p-init g c = since_start _ _ _ _ _ _ c.false_from-carried.ensures

pub loop-p-preserved : goal.loop-p-preserved
loop-p-preserved g c =
    since_split _ _ _ _ c.loop-p.own c.loop-p.p _ _ _ _ _ _ _ _ _ _ (omega arith) (omega arith) (omega arith) c.index-a-p.is c.index-b-p.is
    c.true_from.ensures c.false_from.ensures c.and-kept.ensures c.and-missed.ensures c.or-begun.ensures c.and.ensures c.or-carried.ensures
    c.loop-p.invariant

pub returns : goal.returns
returns g c =
    let k = g.K.LabelKind in
    record {
      told = λ s v f h ta tb.
          tells_since k.reads k.reach (length c.args.own.now) s v c.loop-p.own (omega arith) f c.args.a.now ta h c.args.b.now tb (λ q e j less. c.loop-p.invariant.1 q e j (omega arith));
    }
