use Rattle.std.proofs.Common.{[], ap, ap₂, ◌∙◌}
use Rattle.std.proofs.lemmas.List.{take_rest}
use Rattle.records.specs.Tabled.{table_room}
use Rattle.textrecord.specs.Listed.{states_of}
use Rattle.bench_calls.specs.Outcomes.{appended, taken, refused}
use Rattle.monitor.specs.Book.{ground_on}
use Rattle.bench_calls.proofs.appending.bench_append.Goals as goal

pub returns-in-Ok : goal.returns-in-Ok
returns-in-Ok c =
    let rules = c.in-Ok.rules in
    let ground = ap₂ ground_on c.new-monitor.ensures.0 (ap table_room c.new-monitor.ensures.1 ∙ c.new.ensures.room) in
    taken _ _ rules.used c.in-Ok.ensures (c.append_all.ensures ∙ ap₂ (λ G xs. appended G [] xs) ground (ap states_of (take_rest c.args.text.now rules.used)))

pub returns-in-Err : goal.returns-in-Err
returns-in-Err c = refused c.in-Err.fault c.in-Err.ensures c.stopped.ensures
