use Rattle.std.proofs.Common.{◌+◌, min, Decides, subst, arith}
use Rattle.std.proofs.lemmas.Bool.Decides.{Decides-at, Decides-or, Decides-like}
use Rattle.logic.specs.States.{state_at}
use Rattle.logic.specs.Logic.{Reads}
use Rattle.logic.specs.Tables.{tree}
use Rattle.labelling.proofs.Bounds.{bound_cell, closed_again}
use Rattle.labelling.proofs.job.Binder.label_through.Goals as goal

pub returns : goal.returns
returns g c =
    let reads = g.K.LabelKind.reads in
    let reach = g.K.LabelKind.reach in
    let b = c.args.self.now in
    let job = b.job.now in
    let n = job.n in
    let s = state_at job.states.now in
    let table = job.table.now in
    let p = c.args.p in
    let ys = c.label_bound.new.before in
    let x = c.index-row_of-p.result in
    let told = c.label_bound.ensures.told in
    record {
      known = closed_again reads reach n s table b.wanted c.from.result b.f ys told;
      told = λ e k lo hi.
          Decides-at _ _ (c.or.ensures e k lo hi)
          (Decides-or (reads c.args.so_far e k) (reads x e k) ((λ h. h), (λ h. h))
          (Decides-like (reads x e k) (λ r. (c.if-reference-kind.false, r)) (λ t. t.1)
          (subst (λ w. Decides (reads x e k) (Reads e s (min k n) w (p + 1) (tree table b.part))) c.from.ensures
          (bound_cell reads reach n s table b.wanted b.f b.part c.from.result p ys c.row_of.result.now x c.row_of.ensures (omega arith) b.below c.requires.fit c.index-row_of-p.is told b.ready e k lo hi))));
    }
