use Rattle.std.proofs.Common.{◌≡◌, ℕ, ◌+◌, ◌-◌, ◌<◌, List, length, drop, ◌∙◌, sym, ap, arith}
use Rattle.textrecord.specs.Left.{states_left}
use Rattle.textrecord.specs.Listed.{states_from}
use Rattle.std.proofs.lemmas.List.{take_rest}
use Rattle.textrecord.proofs.Next.{first_left, taken_next, none_next}
use Rattle.textrecord.proofs.scans.StatesIterator.next.Goals as goal

pub returns-in_err-line-clause-steps : goal.returns-in_err-line-clause-steps
returns-in_err-line-clause-steps c =
    let n = none_next c.args.self.now.count c.args.self.now.text.now c.read_state.result c.read_state.ensures (sym c.in_err-line.was ∙ c.ok.ensures.value) in
    rw c.from_residual.ensures (n, n)

pub returns-clause-steps : goal.returns-clause-steps
returns-clause-steps c =
    let t = taken_next c.args.self.now.count c.args.self.now.text.now c.read_state.result c.in_ok-line.line c.read_state.ensures (sym c.in_ok-line.was ∙ c.ok.ensures.value) in
    rw (take_rest c.args.self.now.text.now c.in_ok-line.line.used) (first_left c.args.self.now.count c.args.self.now.text.now c.in_ok-line.line.value c.in_ok-line.line.used t)

pub returns-clause-goes : goal.returns-clause-goes
returns-clause-goes c =
    let t = taken_next c.args.self.now.count c.args.self.now.text.now c.read_state.result c.in_ok-line.line c.read_state.ensures (sym c.in_ok-line.was ∙ c.ok.ensures.value) in
    let l = ap length (first_left c.args.self.now.count c.args.self.now.text.now c.in_ok-line.line.value c.in_ok-line.line.used t) in
    let e : (m : List ℕ) → m ≡ drop c.in_ok-line.line.used c.args.self.now.text.now
    → length (states_from (256 - (c.args.self.now.count + 1)) (c.args.self.now.count + 1) m) < length (states_left c.args.self.now) = λ m h. rw h (omega (arith, l)) in
    record { on = λ f. (tt, tt, e _ (take_rest c.args.self.now.text.now c.in_ok-line.line.used)); keeps = tt; rests = λ f. tt }
