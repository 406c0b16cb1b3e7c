use Rattle.std.proofs.Common.{get_or, sym, ap₂, ◌∙◌}
use Rattle.logic.specs.States.{blank}
use Rattle.answers.specs.declared.types.Call.TheVariants.{Append}
use Rattle.answers.specs.Answers.{after}
use Rattle.monitor.specs.Book.{ground_on}
use Rattle.monitor.specs.Live.{states_of, count_of, ground_of}
use Rattle.customer.proofs.Steps.{own_after, taken_more}
use Rattle.customer.proofs.deciding.append_all.Goals as goal

pub loop-x-preserved : goal.loop-x-preserved
loop-x-preserved g c =
    let inv = c.loop-x.invariant in
    let start = c.args.monitor.now in
    let m = c.loop-x.monitor in
    let a = c.append.ensures in
    let xs = c.args.xs.now in
    let x = get_or xs c.loop-x.x-index blank in
    record {
      own = λ o. a.own (inv.own o);
      table = a.table ∙ inv.table;
      room = a.room ∙ inv.room;
      states = λ o.
          a.states ∙ own_after (count_of m) (ground_of m) (states_of m) (Append x) (inv.own o)
          ∙ ap₂ (λ H ws. after H ws (Append x)) (ap₂ ground_on inv.table inv.room) (inv.states o)
          ∙ sym (taken_more (ground_of start) (states_of start) xs c.loop-x.x-index blank c.loop-x-test.true);
    }
