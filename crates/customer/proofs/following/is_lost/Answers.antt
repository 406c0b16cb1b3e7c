use Rattle.std.proofs.Common.{length, sym, ap, ◌∙◌, arith}
use Rattle.expectations.specs.declared.types.Standing.TheVariants.{Violated}
use Rattle.answers.specs.declared.types.Call.TheVariants.{StandingAt}
use Rattle.answers.specs.Answers.{accepted}
use Rattle.answers.specs.Law.{StandingIs}
use Rattle.monitor.specs.Live.{states_of, ground_of, reply_of}
use Rattle.customer.proofs.Steps.{never_fewer}
use Rattle.customer.proofs.following.is_lost.Goals as goal

pub returns-in-Ok-Violated : goal.returns-in-Ok-Violated
returns-in-Ok-Violated g c own on =
    let m = c.args.monitor.now in
    let xs = states_of m in
    let G = ground_of m in
    let r = c.args.rule in
    let s = c.args.state in
    let d = c.in-Ok-Violated.field-0-0 in
    let promises = c.judge.ensures own in
    let said = rw c.in-Ok-Violated.field-0-is at c.in-Ok-Violated.ensures.told in
    let now : StandingIs G xs r s (length xs) (Violated d) =
    sym (promises.replies (StandingAt r s (length xs))) ∙ ap (λ n. reply_of m (StandingAt r s n)) (sym c.count.ensures) ∙ sym said in
    (d, λ cs. promises.now.lasts.standings cs r s (length xs) (length (accepted G xs cs)) (Violated d) now (λ e. cc) (never_fewer G xs cs) (omega arith))
