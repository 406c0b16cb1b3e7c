use Rattle.std.proofs.Common.{◌+◌, inl, arith}
use Rattle.std.proofs.lemmas.Result.{err_from_is_err_and}
use Rattle.faults.specs.declared.read.ReadFault.TheVariants.{Line}
use Rattle.rulestexts.proofs.Progress.{formulas_more, formulas_stop, formula_dangles}
use Rattle.rulestexts.proofs.sections.read_formulas.Goals as goal

pub returns-in_err-line : goal.returns-in_err-line
returns-in_err-line c =
    let p = err_from_is_err_and c.from_residual-in_err-line.result c.from_residual-in_err-line.ensures.1 in
    rw (p.1, p.2) (inl (formulas_stop c.args.text.now c.in_ok-head.head.value c.loop-k.k c.loop-k.rest.now c.loop-k.draft c.loop-k.invariant (omega arith) (Line _) c.in_err-line.ensures))

pub returns-in_err-join_formula : goal.returns-in_err-join_formula
returns-in_err-join_formula c =
    let p = err_from_is_err_and c.from_residual-in_err-join_formula.result c.from_residual-in_err-join_formula.ensures.1 in
    rw (p.1, p.2) (inl (formula_dangles c.args.text.now c.in_ok-head.head.value c.loop-k.k c.loop-k.rest.now c.loop-k.draft c.loop-k.invariant (omega arith) c.in_ok-line.line.value c.in_ok-line.line.used _ c.join_formula.new.draft c.in_ok-line.ensures c.in_err-join_formula.ensures))

pub loop-k-preserved : goal.loop-k-preserved
loop-k-preserved c =
    formulas_more c.args.text.now c.in_ok-head.head.value c.loop-k.k c.loop-k.rest.now c.loop-k.draft c.loop-k.invariant
    c.in_ok-line.line.value c.in_ok-line.line.used (c.loop-k.k + 2) _ c.in_ok-line.ensures c.in_ok-join_formula.ensures
