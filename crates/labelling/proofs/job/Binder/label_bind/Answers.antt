use Rattle.std.proofs.Common.{◌+◌, min, arith}
use Rattle.logic.specs.States.{state_at}
use Rattle.logic.specs.Logic.{Reads, bind}
use Rattle.logic.specs.Tables.{tree}
use Rattle.labelling.proofs.Decisions.{decided_more}
use Rattle.labelling.proofs.Tellings.{tells_decided}
use Rattle.labelling.proofs.Bounds.{bound_cell, kept_same, closed_again}
use Rattle.labelling.proofs.job.Binder.label_bind.Goals as goal

pub loop-p-preserved : goal.loop-p-preserved
loop-p-preserved g c =
    let reads = g.K.LabelKind.reads in
    let reach = g.K.LabelKind.reach in
    let b = c.args.self.now in
    let job = b.job.now in
    let n = job.n in
    let s = state_at job.states.now in
    let table = job.table.now in
    let p = c.loop-p.p in
    let ys = c.label_bound.new.before in
    let x = c.index-row_of-p.result in
    let told = c.label_bound.ensures.told in (
      closed_again reads reach n s table b.wanted (p + 1) b.f ys told,
      decided_more reads reach (λ i e k. Reads e s (min k n) 0 i (bind (tree table b.part))) c.loop-p.own p x (omega arith)
          (λ e k lo hi.
          kept_same e s (min k n) (p + 1) (p + 1) (tree table b.part) _
          (bound_cell reads reach n s table b.wanted b.f b.part (p + 1) p ys c.row_of.result.now x c.row_of.ensures (omega arith) b.below (omega arith) c.index-row_of-p.is told b.ready e k lo hi))
          c.loop-p.invariant.1,
    )

pub returns : goal.returns
returns g c =
    let b = c.args.self.now in
    let job = b.job.now in
    let s = state_at job.states.now in
    record {
      known = c.loop-p.invariant.0;
      told = λ v.
          tells_decided g.K.LabelKind.reads g.K.LabelKind.reach job.n s v c.loop-p.own (omega arith) (bind (tree job.table.now b.part))
          (λ i e k pos le. c.loop-p.invariant.1 i e k pos (omega arith));
    }
