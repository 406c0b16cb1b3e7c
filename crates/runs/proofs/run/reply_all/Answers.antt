use Rattle.std.proofs.Common.{◌≡◌, ◌<◌, length, get_or, sym, ap, ◌∙◌, subst, ap₂, arith}
use Rattle.std.proofs.lemmas.List.{drop-set-lt}
use Rattle.logic.specs.States.{blank}
use Rattle.answers.specs.declared.types.Call.TheVariants.{Append}
use Rattle.answers.specs.Answers.{replied, grown_to}
use Rattle.answers.proofs.Stepping.{own_more, foreign_more, foreign_told}
use Rattle.monitor.specs.Book.{ground_on}
use Rattle.monitor.specs.Live.{states_of, count_of, ground_of, Own}
use Rattle.runs.proofs.run.reply_all.Goals as goal

pub loop-k-preserved : goal.loop-k-preserved
loop-k-preserved g c =
    let r = c.reply.ensures in
    let inv = c.loop-k.invariant in
    let m = c.loop-k.monitor in
    let start = c.args.monitor.now in
    let new = c.reply.new.monitor in
    let call = get_or c.args.calls.now c.loop-k.k (Append blank) in
    let fits : c.loop-k.k < length c.loop-k.answers = omega arith in
    let same : ground_of m ≡ ground_of start = ap₂ ground_on inv.table inv.room in
    record {
      table = r.table ∙ inv.table;
      room = r.room ∙ inv.room;
      own = λ e.
          own_more (ground_of start) (states_of start) c.args.calls.now c.loop-k.k (count_of m) (count_of new) (states_of m) (states_of new) c.loop-k.answers c.reply.result
          c.loop-k-test.true fits
          (r.told ∙ ap (λ G. replied (count_of m) G (states_of m) call) same) (r.states ∙ ap (λ G. grown_to (count_of m) G (states_of m) call) same)
          r.own (inv.own e);
      foreign = λ n.
          let o = inv.foreign n in
          let apart : Own m → ⊥ = subst (λ x. Own x → ⊥) (sym o.0) n in
          (r.foreign apart ∙ o.0, foreign_more c.loop-k.k c.loop-k.answers c.reply.result fits (r.told ∙ foreign_told (count_of m) (ground_of m) (states_of m) call apart) o.1);
      later = drop-set-lt (length c.args.calls.now) c.loop-k.answers c.loop-k.k c.reply.result (omega arith) ∙ inv.later;
    }
