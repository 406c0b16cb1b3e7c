use Rattle.std.proofs.Common.{rules}
use Rattle.fields.proofs.Shown.{later, over, at_end, missing}
use Rattle.traces.proofs.Showing.{breaks}
use Rattle.traces.proofs.numbers.numbers_of.Goals as goal

pub returns-in_err-signals : goal.returns-in_err-signals
returns-in_err-signals c =
    rw c.from_residual-in_err-signals.ensures
    (breaks _ c.args.line.now c.of-fields.ensures (λ v f. later c.in_ok-state.ensures.read.took (missing c.in_err-signals.ensures.read f.signals)))

pub returns-in_err-nominal : goal.returns-in_err-nominal
returns-in_err-nominal c =
    rw c.from_residual-in_err-nominal.ensures
    (breaks _ c.args.line.now c.of-fields.ensures (λ v f. later c.in_ok-state.ensures.read.took (later c.in_ok-signals.ensures.read.took (missing c.in_err-nominal.ensures.read f.nominal))))

pub returns-in_err-first_kind : goal.returns-in_err-first_kind
returns-in_err-first_kind c =
    rw c.from_residual-in_err-first_kind.ensures
    (breaks _ c.args.line.now c.of-fields.ensures (λ v f. later c.in_ok-state.ensures.read.took (later c.in_ok-signals.ensures.read.took (later c.in_ok-nominal.ensures.read.took (missing c.in_err-first_kind.ensures.read f.first_kind)))))

pub returns-in_err-first_target : goal.returns-in_err-first_target
returns-in_err-first_target c =
    rw c.from_residual-in_err-first_target.ensures
    (breaks _ c.args.line.now c.of-fields.ensures (λ v f. later c.in_ok-state.ensures.read.took (later c.in_ok-signals.ensures.read.took (later c.in_ok-nominal.ensures.read.took (later c.in_ok-first_kind.ensures.read.took (missing c.in_err-first_target.ensures.read f.first_target))))))

pub returns-in_err-second_kind : goal.returns-in_err-second_kind
returns-in_err-second_kind c =
    rw c.from_residual-in_err-second_kind.ensures
    (breaks _ c.args.line.now c.of-fields.ensures (λ v f. later c.in_ok-state.ensures.read.took (later c.in_ok-signals.ensures.read.took (later c.in_ok-nominal.ensures.read.took (later c.in_ok-first_kind.ensures.read.took (later c.in_ok-first_target.ensures.read.took (missing c.in_err-second_kind.ensures.read f.second_kind)))))))

pub returns-in_err-second_target : goal.returns-in_err-second_target
returns-in_err-second_target c =
    rw c.from_residual-in_err-second_target.ensures
    (breaks _ c.args.line.now c.of-fields.ensures (λ v f. later c.in_ok-state.ensures.read.took (later c.in_ok-signals.ensures.read.took (later c.in_ok-nominal.ensures.read.took (later c.in_ok-first_kind.ensures.read.took (later c.in_ok-first_target.ensures.read.took (later c.in_ok-second_kind.ensures.read.took (missing c.in_err-second_target.ensures.read f.second_target))))))))

pub returns : goal.returns
returns c =
    at_end _ c.is_at_end.result _ c.then_some.result c.is_at_end.ensures c.then_some.ensures
    (λ n. breaks _ c.args.line.now c.of-fields.ensures (λ v f. later c.in_ok-state.ensures.read.took (later c.in_ok-signals.ensures.read.took (later c.in_ok-nominal.ensures.read.took (later c.in_ok-first_kind.ensures.read.took (later c.in_ok-first_target.ensures.read.took (later c.in_ok-second_kind.ensures.read.took (later c.in_ok-second_target.ensures.read.took (over n)))))))))
    (λ e. search rules)
