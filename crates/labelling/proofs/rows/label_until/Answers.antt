use Rattle.std.proofs.Common.{length, arith, rules}
use Rattle.labelling.proofs.Fills.{until_start, until_turn}
use Rattle.labelling.proofs.Tellings.{tells_until}
use Rattle.labelling.proofs.rows.label_until.Goals as goal

pub loop-p-init : goal.loop-p-init
loop-p-init g c = until_start _ _ _ _ _ _ (search rules)

pub loop-p-preserved : goal.loop-p-preserved
loop-p-preserved g c =
    until_turn _ _ _ _ c.loop-p.own c.loop-p.p _ _ _ _ _ _ (omega arith) (omega arith) (omega arith) (omega arith) c.index-a-p.is c.index-b-p.is
    c.and.ensures c.or-next.ensures c.loop-p.invariant

pub returns : goal.returns
returns g c =
    let k = g.K.LabelKind in
    record {
      told = λ s v f h ta tb.
          tells_until k.reads k.reach (length c.args.own.now) s v c.loop-p.own (omega arith) f c.args.a.now ta h c.args.b.now tb (λ q e j lo. c.loop-p.invariant.1 q e j (omega arith));
    }
