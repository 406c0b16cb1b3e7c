use Rattle.std.proofs.Common.{length, subst}
use Rattle.std.proofs.lemmas.Result.{err_from_is_err_and}
use Rattle.table.specs.Tables.{formulas_of}
use Rattle.labelling.specs.Whole.{Declined}
use Rattle.bench_calls.proofs.labelled.label_states.Goals as goal

pub returns-in_err-states : goal.returns-in_err-states
returns-in_err-states g c =
    let p = err_from_is_err_and c.from_residual.result c.from_residual.ensures.1 in
    rw (p.1, p.2)
    (subst (λ xs. Declined (formulas_of c.args.table.now.draft) xs g.K.LabelKind.reach (length c.args.cells.now) (length c.args.work.now) c.in_err-states.field-0.0) c.gather.ensures c.in_err-states.ensures.0)
