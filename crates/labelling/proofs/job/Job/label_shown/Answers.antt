use Rattle.std.proofs.Common.{refl, arith}
use Rattle.logic.specs.declared.types.Formula.TheVariants as op
use Rattle.logic.specs.States.{state_at}
use Rattle.labelling.proofs.Leaves.{decided_tells}
use Rattle.labelling.proofs.job.Job.label_shown.Goals as goal

pub returns-in-Signal : goal.returns-in-Signal
returns-in-Signal g c =
    let k = g.K.LabelKind in
    let job = c.args.self.now in
    record {
      told = decided_tells k.reads k.reach job.n (state_at job.states.now) c.args.v c.args.formula (op.Signal c.in-Signal.b) c.in-Signal.is refl _ (λ p b h. h) c.decide_row.new.own (omega arith) c.decide_row.ensures.decided;
    }

pub returns-in-Nominal : goal.returns-in-Nominal
returns-in-Nominal g c =
    let k = g.K.LabelKind in
    let job = c.args.self.now in
    record {
      told = decided_tells k.reads k.reach job.n (state_at job.states.now) c.args.v c.args.formula (op.Nominal c.in-Nominal.a) c.in-Nominal.is refl _ (λ p b h. h) c.decide_row-in-Nominal.new.own (omega arith) c.decide_row-in-Nominal.ensures.decided;
    }

pub returns-in-Reference : goal.returns-in-Reference
returns-in-Reference g c =
    let k = g.K.LabelKind in
    let job = c.args.self.now in
    record {
      told = decided_tells k.reads k.reach job.n (state_at job.states.now) c.args.v c.args.formula (op.Reference c.in-Reference.kind) c.in-Reference.is refl _ (λ p b h. h) c.decide_row-in-Reference.new.own (omega arith) c.decide_row-in-Reference.ensures.decided;
    }
