use Rattle.std.proofs.Common.{refl, arith}
use Rattle.logic.specs.declared.types.Formula.TheVariants as op
use Rattle.logic.specs.States.{state_at}
use Rattle.labelling.proofs.Leaves.{decided_tells}
use Rattle.labelling.proofs.job.Job.label_here.Goals as goal

pub returns-in-True : goal.returns-in-True
returns-in-True g c =
    let k = g.K.LabelKind in
    let job = c.args.self.now in
    record {
      told = decided_tells k.reads k.reach job.n (state_at job.states.now) c.args.v c.args.formula op.True c.in-True.is refl _ (λ p b h. ((λ z. tt), (λ z. h))) c.decide_row.new.own (omega arith) c.decide_row.ensures.decided;
    }

pub returns-in-Variable : goal.returns-in-Variable
returns-in-Variable g c =
    let k = g.K.LabelKind in
    let job = c.args.self.now in
    record {
      told = decided_tells k.reads k.reach job.n (state_at job.states.now) c.args.v c.args.formula op.Variable c.in-Variable.is refl _ (λ p b h. h) c.decide_row-in-Variable.new.own (omega arith) c.decide_row-in-Variable.ensures.decided;
    }
