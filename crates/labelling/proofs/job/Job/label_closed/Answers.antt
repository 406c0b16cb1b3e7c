use Rattle.std.proofs.Common.{get_or, sym, subst}
use Rattle.logic.specs.States.{state_at}
use Rattle.logic.specs.Logic.{bind, some'}
use Rattle.logic.specs.Tables.{tree, loose}
use Rattle.labelling.specs.Bound.{ClosedTold}
use Rattle.labelling.specs.Tells.{Tells}
use Rattle.logic.specs.declared.types.Formula.TheVariants as op
use Rattle.labelling.proofs.Nodes.{tells_node}
use Rattle.labelling.proofs.Bounds.{closed_ready, not_binder}
use Rattle.labelling.proofs.Tellings.{tells_any}
use Rattle.labelling.proofs.job.Job.label_closed.Goals as goal

pub label_row-requires : goal.label_row-requires
label_row-requires g c =
    let job = c.args.self.now in
    let table = job.table.now in
    let plain = not_binder (get_or table c.args.f op.True) c.in_default.not-Bind c.in_default.not-Some in
    record {
      fit = (c.requires.fit.0, plain);
      room = c.requires.room;
      parts = closed_ready g.K.LabelKind.reads g.K.LabelKind.reach job.n (state_at job.states.now) table job.orderly c.args.f c.requires.fit.0 c.args.before.now plain c.requires.fit.1 c.requires.known 0;
    }

pub label_bind-requires-clause-known : goal.label_bind-requires-clause-known
label_bind-requires-clause-known g c =
    let k = g.K.LabelKind in
    let e = c.binder.ensures in
    let xs = c.args.before.now in
    subst (λ j. ClosedTold k.reads k.reach j.n (state_at j.states.now) j.table.now xs c.binder.result.f) (sym e.0)
    (subst (λ f. ClosedTold k.reads k.reach c.args.self.now.n (state_at c.args.self.now.states.now) c.args.self.now.table.now xs f) (sym e.1) c.requires.known)

pub returns-in-Bind : goal.returns-in-Bind
returns-in-Bind g c =
    let k = g.K.LabelKind in
    let job = c.args.self.now in
    let e = c.binder.ensures in
    let xs = c.label_bind.new.before in
    record {
      known =
          subst (λ f. ClosedTold k.reads k.reach job.n (state_at job.states.now) job.table.now xs f) e.1
          (subst (λ j. ClosedTold k.reads k.reach j.n (state_at j.states.now) j.table.now xs c.binder.result.f) e.0 c.label_bind.ensures.known);
      told = λ v.
          tells_node job.table.now job.orderly c.args.f c.requires.fit.0 (op.Bind c.in-Bind.part) c.in-Bind.is k.reads k.reach job.n (state_at job.states.now) v c.label_bind.new.own
          (subst (λ p. Tells k.reads k.reach job.n (state_at job.states.now) v (bind (tree job.table.now p)) c.label_bind.new.own) e.2
          (subst (λ j. Tells k.reads k.reach j.n (state_at j.states.now) v (bind (tree j.table.now c.binder.result.part)) c.label_bind.new.own) e.0 (c.label_bind.ensures.told v)));
    }

pub label_some-requires-clause-known : goal.label_some-requires-clause-known
label_some-requires-clause-known g c =
    let k = g.K.LabelKind in
    let e = c.binder-in-Some.ensures in
    let xs = c.args.before.now in
    subst (λ j. ClosedTold k.reads k.reach j.n (state_at j.states.now) j.table.now xs c.binder-in-Some.result.f) (sym e.0)
    (subst (λ f. ClosedTold k.reads k.reach c.args.self.now.n (state_at c.args.self.now.states.now) c.args.self.now.table.now xs f) (sym e.1) c.requires.known)

pub returns-in-Some : goal.returns-in-Some
returns-in-Some g c =
    let k = g.K.LabelKind in
    let job = c.args.self.now in
    let e = c.binder-in-Some.ensures in
    let xs = c.label_some.new.before in
    record {
      known =
          subst (λ f. ClosedTold k.reads k.reach job.n (state_at job.states.now) job.table.now xs f) e.1
          (subst (λ j. ClosedTold k.reads k.reach j.n (state_at j.states.now) j.table.now xs c.binder-in-Some.result.f) e.0 c.label_some.ensures.known);
      told = λ v.
          tells_node job.table.now job.orderly c.args.f c.requires.fit.0 (op.Some c.in-Some.kind c.in-Some.part) c.in-Some.is k.reads k.reach job.n (state_at job.states.now) v c.label_some.new.own
          (subst (λ p. Tells k.reads k.reach job.n (state_at job.states.now) v (some' c.in-Some.kind (tree job.table.now p)) c.label_some.new.own) e.2
          (subst (λ j. Tells k.reads k.reach j.n (state_at j.states.now) v (some' c.in-Some.kind (tree j.table.now c.binder-in-Some.result.part)) c.label_some.new.own) e.0 (c.label_some.ensures.told v)));
    }

pub returns-in_default : goal.returns-in_default
unfolding loose
returns-in_default g c =
    let k = g.K.LabelKind in
    let job = c.args.self.now in
    record {
      known = c.requires.known;
      told = λ v. tells_any k.reads k.reach job.n (state_at job.states.now) 0 v (tree job.table.now c.args.f) c.label_row.new.own c.requires.fit.1 c.label_row.ensures.told;
    }
