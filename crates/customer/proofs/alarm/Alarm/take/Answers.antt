use Rattle.std.proofs.Common.{◌≡◌, ◌<◌, sym, ap, ap₂, ◌∙◌, nat_lt, rules}
use Rattle.std.proofs.lemmas.Bool.{ltb-true, lt-ltb}
use Rattle.answers.specs.declared.types.Call.TheVariants.{Append}
use Rattle.answers.specs.declared.types.Answer.TheVariants.{Number}
use Rattle.monitor.specs.Book.{ground_on}
use Rattle.monitor.specs.Live.{states_of, ground_of, tally_at}
use Rattle.customer.proofs.Steps.{tally, stays_violated}
use Rattle.customer.proofs.alarm.Alarm.take.Goals as goal

pub returns-clause-lasting : goal.returns-clause-lasting
returns-clause-lasting g c on =
    let s = c.args.self.now in
    let m = s.monitor in
    let m1 = c.append.new.self in
    let x = c.args.state in
    let a = c.in_ok-n.ensures in
    let promises = c.judge.ensures s.own in
    let same : ground_of m1 ≡ ground_of m = ap₂ ground_on a.table a.room in
    let counted : c.map_or-violated.result ≡ (tally_at m1 s.rule).violated = search rules in
    let was : 0 < (tally (ground_of m) (states_of m) s.rule).violated = ltb-true 0 _ (sym s.rings ∙ on) in
    let is : 0 < (tally (ground_of m) (states_of m1) s.rule).violated =
    stays_violated (ground_of m) (states_of m) (states_of m1) x s.rule (Number c.in_ok-n.n) promises.now.judged s.named
    (sym (promises.replies (Append x)) ∙ sym a.told) (a.states ∙ promises.grows (Append x)) was in
    ap (nat_lt 0) (counted ∙ ap (λ G. (tally G (states_of m1) s.rule).violated) same) ∙ lt-ltb 0 _ is
