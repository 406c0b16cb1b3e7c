use Rattle.std.proofs.Common.{sym, ◌∙◌}
use Rattle.monitor.specs.Live.{states_of, Own}
use Rattle.runs.proofs.Replies.{never_taken_back, from_empty}
use Rattle.runs.proofs.run.answer_all.Goals as goal

pub returns-clause-for_good : goal.returns-clause-for_good
returns-clause-for_good g c enough =
    let start = c.args.monitor.now in
    never_taken_back start.book.table _ (states_of start) c.args.calls.now c.reply_all.new.answers (states_of c.reply_all.new.monitor) c.reply_all.ensures.ran

pub returns-clause-empty : goal.returns-clause-empty
returns-clause-empty g c none = from_empty c.reply_all.new.monitor (c.reply_all.ensures.own none)

pub returns-then-answers-calls-clause-empty : goal.returns-then-answers-calls-clause-empty
returns-then-answers-calls-clause-empty g c none =
    let own : Own c.args.monitor.now = c.requires.fresh ∙ sym none in
    from_empty c.args.monitor.now own
