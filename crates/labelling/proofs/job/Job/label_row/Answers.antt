use Rattle.std.proofs.Common.{ℕ, ◌≡◌, ◌≤◌, get_or, length, Option, None, Some, IfSome, sym, refl, subst, ◌∙◌, ap, arith}
use Rattle.logic.specs.States.{Trace, state_at}
use Rattle.logic.specs.Lawful.{LawfulTo}
use Rattle.logic.specs.Tables.{tree}
use Rattle.logic.specs.declared.types.Formula.TheVariants as op
use Rattle.labelling.specs.Tells.{Tells, NamedState}
use Rattle.labelling.proofs.Nodes.{row_below, parts_below, tells_node, told_node}
use Rattle.labelling.proofs.Places.{length_row}
use Rattle.labelling.proofs.job.Job.label_row.Goals as goal

named_within : (s : Trace) (n m a : ℕ) (o : Option ℕ) → n ≡ m → NamedState s n a o → IfSome o (λ i. (1 ≤ i) × (i ≤ m))
named_within s n m a None e h = tt
named_within s n m a (Some i) e h = (h.0, omega (arith, h.1))

pub label_named-requires-clause-within : goal.label_named-requires-clause-within
label_named-requires-clause-within g c =
    let job = c.args.self.now in
    let low = parts_below job.table.now job.orderly c.args.f c.requires.fit.0 (op.At c.in-At.nominal c.in-At.a) c.in-At.is in
    let below = row_below c.in-At.a c.args.f job.n low in
    let long : length c.row_of-in-At.result.now ≡ job.n = ap length c.row_of-in-At.ensures ∙ length_row job.n c.in-At.a c.args.before.now (omega (arith, c.requires.room.0)) in
    named_within (state_at job.states.now) job.n (length c.row_of-in-At.result.now) c.in-At.nominal c.named_state.result (sym long) c.named_state.ensures

pub returns-in-Not : goal.returns-in-Not
returns-in-Not g c =
    let k = g.K.LabelKind in
    let job = c.args.self.now in
    let s = state_at job.states.now in
    let table = job.table.now in
    let own = c.args.own.now in
    record {
      told = told_node table job.orderly c.args.f c.requires.fit.0 (op.Not c.in-Not.a) c.in-Not.is k.reads k.reach (length own) job.n c.requires.room.1 s c.args.v c.args.before.now c.label_not.new.own c.requires.parts
          (λ t. c.label_not.ensures.told s c.args.v (tree table c.in-Not.a) (subst (Tells k.reads k.reach (length own) s c.args.v (tree table c.in-Not.a)) (sym c.row_of.ensures) t));
    }

pub returns-in-And : goal.returns-in-And
returns-in-And g c =
    let k = g.K.LabelKind in
    let job = c.args.self.now in
    let s = state_at job.states.now in
    let table = job.table.now in
    let own = c.args.own.now in
    record {
      told = told_node table job.orderly c.args.f c.requires.fit.0 (op.And c.in-And.a c.in-And.b) c.in-And.is k.reads k.reach (length own) job.n c.requires.room.1 s c.args.v c.args.before.now c.label_and.new.own c.requires.parts
          (λ t.
          c.label_and.ensures.told s c.args.v (tree table c.in-And.a) (tree table c.in-And.b)
          (subst (Tells k.reads k.reach (length own) s c.args.v (tree table c.in-And.a)) (sym c.row_of-in-And.ensures) t.0)
          (subst (Tells k.reads k.reach (length own) s c.args.v (tree table c.in-And.b)) (sym c.row_of-in-And-2.ensures) t.1));
    }

pub returns-in-Or : goal.returns-in-Or
returns-in-Or g c =
    let k = g.K.LabelKind in
    let job = c.args.self.now in
    let s = state_at job.states.now in
    let table = job.table.now in
    let own = c.args.own.now in
    record {
      told = told_node table job.orderly c.args.f c.requires.fit.0 (op.Or c.in-Or.a c.in-Or.b) c.in-Or.is k.reads k.reach (length own) job.n c.requires.room.1 s c.args.v c.args.before.now c.label_or.new.own c.requires.parts
          (λ t.
          c.label_or.ensures.told s c.args.v (tree table c.in-Or.a) (tree table c.in-Or.b)
          (subst (Tells k.reads k.reach (length own) s c.args.v (tree table c.in-Or.a)) (sym c.row_of-in-Or.ensures) t.0)
          (subst (Tells k.reads k.reach (length own) s c.args.v (tree table c.in-Or.b)) (sym c.row_of-in-Or-2.ensures) t.1));
    }

pub returns-in-Next : goal.returns-in-Next
returns-in-Next g c =
    let k = g.K.LabelKind in
    let job = c.args.self.now in
    let s = state_at job.states.now in
    let table = job.table.now in
    let own = c.args.own.now in
    record {
      told = told_node table job.orderly c.args.f c.requires.fit.0 (op.Next c.in-Next.a) c.in-Next.is k.reads k.reach (length own) job.n c.requires.room.1 s c.args.v c.args.before.now c.label_next.new.own c.requires.parts
          (λ t. c.label_next.ensures.told s c.args.v (tree table c.in-Next.a) (subst (Tells k.reads k.reach (length own) s c.args.v (tree table c.in-Next.a)) (sym c.row_of-in-Next.ensures) t));
    }

pub returns-in-Previous : goal.returns-in-Previous
returns-in-Previous g c =
    let k = g.K.LabelKind in
    let job = c.args.self.now in
    let s = state_at job.states.now in
    let table = job.table.now in
    let own = c.args.own.now in
    record {
      told = told_node table job.orderly c.args.f c.requires.fit.0 (op.Previous c.in-Previous.a) c.in-Previous.is k.reads k.reach (length own) job.n c.requires.room.1 s c.args.v c.args.before.now c.label_previous.new.own c.requires.parts
          (λ t. c.label_previous.ensures.told s c.args.v (tree table c.in-Previous.a) (subst (Tells k.reads k.reach (length own) s c.args.v (tree table c.in-Previous.a)) (sym c.row_of-in-Previous.ensures) t));
    }

pub returns-in-Until : goal.returns-in-Until
returns-in-Until g c =
    let k = g.K.LabelKind in
    let job = c.args.self.now in
    let s = state_at job.states.now in
    let table = job.table.now in
    let own = c.args.own.now in
    record {
      told = told_node table job.orderly c.args.f c.requires.fit.0 (op.Until c.in-Until.a c.in-Until.b) c.in-Until.is k.reads k.reach (length own) job.n c.requires.room.1 s c.args.v c.args.before.now c.label_until.new.own c.requires.parts
          (λ t.
          c.label_until.ensures.told s c.args.v (tree table c.in-Until.a) (tree table c.in-Until.b)
          (subst (Tells k.reads k.reach (length own) s c.args.v (tree table c.in-Until.a)) (sym c.row_of-in-Until.ensures) t.0)
          (subst (Tells k.reads k.reach (length own) s c.args.v (tree table c.in-Until.b)) (sym c.row_of-in-Until-2.ensures) t.1));
    }

pub returns-in-Since : goal.returns-in-Since
returns-in-Since g c =
    let k = g.K.LabelKind in
    let job = c.args.self.now in
    let s = state_at job.states.now in
    let table = job.table.now in
    let own = c.args.own.now in
    record {
      told = told_node table job.orderly c.args.f c.requires.fit.0 (op.Since c.in-Since.a c.in-Since.b) c.in-Since.is k.reads k.reach (length own) job.n c.requires.room.1 s c.args.v c.args.before.now c.label_since.new.own c.requires.parts
          (λ t.
          c.label_since.ensures.told s c.args.v (tree table c.in-Since.a) (tree table c.in-Since.b)
          (subst (Tells k.reads k.reach (length own) s c.args.v (tree table c.in-Since.a)) (sym c.row_of-in-Since.ensures) t.0)
          (subst (Tells k.reads k.reach (length own) s c.args.v (tree table c.in-Since.b)) (sym c.row_of-in-Since-2.ensures) t.1));
    }

pub returns-in-At : goal.returns-in-At
returns-in-At g c =
    let k = g.K.LabelKind in
    let job = c.args.self.now in
    let s = state_at job.states.now in
    let table = job.table.now in
    let own = c.args.own.now in
    record {
      told = told_node table job.orderly c.args.f c.requires.fit.0 (op.At c.in-At.nominal c.in-At.a) c.in-At.is k.reads k.reach (length own) job.n c.requires.room.1 s c.args.v c.args.before.now c.label_named.new.own c.requires.parts
          (λ t. c.label_named.ensures.told s c.args.v c.in-At.nominal (tree table c.in-At.a) (subst (λ m. LawfulTo m s) (sym c.requires.room.1) job.lawful) (subst (λ m. NamedState s m c.in-At.nominal c.named_state.result) (sym c.requires.room.1) c.named_state.ensures) (subst (Tells k.reads k.reach (length own) s c.args.v (tree table c.in-At.a)) (sym c.row_of-in-At.ensures) t));
    }

pub returns-in_default : goal.returns-in_default
returns-in_default g c =
    let k = g.K.LabelKind in
    let job = c.args.self.now in
    let s = state_at job.states.now in
    let table = job.table.now in
    record {
      told = tells_node table job.orderly c.args.f c.requires.fit.0 (get_or table c.args.f op.True) refl k.reads k.reach job.n s c.args.v c.label_here.new.own (c.label_here.ensures.told (tree table));
    }
