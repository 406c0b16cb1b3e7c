use Rattle.std.proofs.Common.{◌≡◌, ◌+◌, ◌<◌, ◌≢◌, length, get_or, take, map, sym, ap, ap₂, ◌∙◌, below_more, arith, get_or-set_same, get_or-set_other}
use Rattle.std.proofs.lemmas.List.{drop-set-lt}
use Rattle.logic.specs.States.{blank}
use Rattle.answers.specs.declared.types.Call.TheVariants.{Append, StandingAt}
use Rattle.answers.specs.Answers.{after, told}
use Rattle.answers.specs.Law.{foreign}
use Rattle.monitor.specs.Book.{ground_on}
use Rattle.monitor.specs.Live.{states_of, count_of, ground_of}
use Rattle.customer.specs.Following.{told_of}
use Rattle.customer.proofs.Steps.{own_after, taken_more, lasts_on}
use Rattle.customer.proofs.following.follow.Goals as goal

pub loop-k-preserved : goal.loop-k-preserved
loop-k-preserved g c =
    let inv = c.loop-k.invariant in
    let start = c.args.monitor.now in
    let m = c.loop-k.monitor in
    let m1 = c.append.new.self in
    let G = ground_of start in
    let xs = c.args.xs.now in
    let k = c.loop-k.k in
    let x = get_or xs k blank in
    let a = c.append.ensures in
    let call = StandingAt c.args.rule c.args.state c.count.result in
    let fits : k < length c.loop-k.told = omega arith in
    let same : ground_of m ≡ G = ap₂ ground_on inv.table inv.room in
    let same1 : ground_of m1 ≡ G = ap₂ ground_on (a.table ∙ inv.table) (a.room ∙ inv.room) in
    record {
      own = λ o. a.own (inv.own o);
      table = a.table ∙ inv.table;
      room = a.room ∙ inv.room;
      later = drop-set-lt (length xs) c.loop-k.told k c.ask.result (omega arith) ∙ inv.later;
      states = λ o.
          a.states ∙ own_after (count_of m) (ground_of m) (states_of m) (Append x) (inv.own o)
          ∙ ap₂ (λ H ws. after H ws (Append x)) same (inv.states o) ∙ sym (taken_more G (states_of start) xs k blank c.loop-k-test.true);
      each = λ o.
          let states =
          a.states ∙ own_after (count_of m) (ground_of m) (states_of m) (Append x) (inv.own o)
          ∙ ap₂ (λ H ws. after H ws (Append x)) same (inv.states o) ∙ sym (taken_more G (states_of start) xs k blank c.loop-k-test.true) in
          below_more _ k
          (λ i h. let ne : i ≢ k = omega arith in get_or-set_other c.loop-k.told k i c.ask.result foreign ne ∙ inv.each o i h)
          (get_or-set_same c.loop-k.told k c.ask.result foreign fits ∙ c.ask.ensures.told
          ∙ (c.judge-in-loop-k.ensures (a.own (inv.own o))).replies call
          ∙ ap (λ n. told (ground_of m1) (states_of m1) (StandingAt c.args.rule c.args.state n)) c.count.ensures
          ∙ ap₂ (λ H ws. told_of H ws c.args.rule c.args.state) same1 states);
    }

pub returns-clause-for_good : goal.returns-clause-for_good
returns-clause-for_good g c ok own j k s le h decided e =
    let start = c.args.monitor.now in
    let inv = c.loop-k.invariant in
    let xs = c.args.xs.now in
    let low : j < c.loop-k.k = omega arith in
    let high : k < c.loop-k.k = omega arith in
    inv.each own k high
    ∙ lasts_on (ground_of start) (states_of start) xs c.args.rule c.args.state (j + 1) (k + 1) s (omega arith) decided
    ((c.judge.ensures own).later (map Append (take (j + 1) xs))).lasts (sym (inv.each own j low) ∙ e)
