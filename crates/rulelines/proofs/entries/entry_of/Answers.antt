use Rattle.std.proofs.Common.{rules}
use Rattle.fields.proofs.Shown.{later, over, at_end, missing, missing_word}
use Rattle.rulelines.proofs.Showing.{no_formula}
use Rattle.rulelines.proofs.entries.entry_of.Goals as goal

pub returns-in_err-operator : goal.returns-in_err-operator
returns-in_err-operator c =
    rw c.from_residual-in_err-operator.ensures (no_formula _ c.args.line.now c.of-fields.ensures (λ v f. later c.in_ok-number.ensures.read.took (missing_word c.in_err-operator.ensures.read v.operator)))

pub returns-in_err-a : goal.returns-in_err-a
returns-in_err-a c =
    rw c.from_residual-in_err-a.ensures (no_formula _ c.args.line.now c.of-fields.ensures (λ v f. later c.in_ok-number.ensures.read.took (later c.in_ok-operator.ensures.read (missing c.in_err-a.ensures.read f.a))))

pub returns-in_err-b : goal.returns-in_err-b
returns-in_err-b c =
    rw c.from_residual-in_err-b.ensures (no_formula _ c.args.line.now c.of-fields.ensures (λ v f. later c.in_ok-number.ensures.read.took (later c.in_ok-operator.ensures.read (later c.in_ok-a.ensures.read.took (missing c.in_err-b.ensures.read f.b)))))

pub returns : goal.returns
returns c =
    at_end _ c.is_at_end.result _ c.then_some.result c.is_at_end.ensures c.then_some.ensures
    (λ n. no_formula _ c.args.line.now c.of-fields.ensures (λ v f. later c.in_ok-number.ensures.read.took (later c.in_ok-operator.ensures.read (later c.in_ok-a.ensures.read.took (later c.in_ok-b.ensures.read.took (over n))))))
    (λ e. search rules)
