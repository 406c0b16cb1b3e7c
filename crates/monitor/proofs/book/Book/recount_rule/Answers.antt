use Rattle.std.proofs.Common.{◌≡◌, ◌<◌, ◌-◌, get_or, length, refl, ◌∙◌, arith, rules}
use Rattle.std.proofs.lemmas.List.{get_or-set_same, get_or-set_other}
use Rattle.logic.specs.Tables.{no_rule}
use Rattle.expectations.specs.Expectations.{no_tally}
use Rattle.table.proofs.Orders.{in_order}
use Rattle.monitor.specs.Book.{held, rules_in}
use Rattle.monitor.proofs.Tallies.{few, tallied_more}
use Rattle.monitor.proofs.book.Book.recount_rule.Goals as goal

pub loop-state-init : goal.loop-state-init
loop-state-init c =
    let b = c.args.self.now in
    let fits : c.args.r < length b.tallies = omega (arith, c.requires, (in_order b.table).short, b.sixteen) in
    let zero : c.default.result ≡ no_tally = search rules in
    record {
      same = (refl, refl, refl, refl);
      so_far = get_or-set_same b.tallies c.args.r c.default.result no_tally fits ∙ zero;
      others = λ k ne. get_or-set_other b.tallies c.args.r k c.default.result no_tally ne;
    }

pub count_one-requires : goal.count_one-requires
count_one-requires c =
    let b = c.loop-state.self in
    let f = few (held b) (get_or (rules_in b) c.args.r no_rule) b.count (c.loop-state.state - 1) _ c.loop-state.invariant.so_far in
    let n = b.short in
    (omega (arith, f.0, n, c.loop-state-test.true), (omega (arith, f.1, n, c.loop-state-test.true), (omega (arith, f.2, n, c.loop-state-test.true), omega (arith, f.3, n, c.loop-state-test.true))))

pub loop-state-preserved : goal.loop-state-preserved
loop-state-preserved c =
    let b = c.loop-state.self in
    let inv = c.loop-state.invariant in
    let fits : c.args.r < length b.tallies = omega (arith, c.requires, (in_order c.args.self.now.table).short, b.sixteen) in
    record {
      same = inv.same;
      so_far = get_or-set_same b.tallies c.args.r c.count_one.new.t no_tally fits
          ∙ tallied_more (held b) (get_or (rules_in b) c.args.r no_rule) b.count c.loop-state.state _ _ _ (omega arith) inv.so_far c.last_standing-standing.ensures c.count_one.ensures;
      others = λ k ne. get_or-set_other b.tallies c.args.r k c.count_one.new.t no_tally ne ∙ inv.others k ne;
    }
