use Rattle.std.proofs.Common.{length, refl, sym, ap, ap₂, ◌∙◌}
use Rattle.refusals.specs.Numbers.{told}
use Rattle.monitor.specs.Book.{ground_on}
use Rattle.monitor.specs.Live.{states_of, count_of, ground_of}
use Rattle.textrecord.specs.Left.{states_left}
use Rattle.bench_calls.specs.Outcomes.{stopped, appended}
use Rattle.bench_calls.proofs.Appends.{goes_on, ends}
use Rattle.bench_calls.proofs.appending.append_all.Goals as goal

pub returns-in-Err : goal.returns-in-Err
returns-in-Err g c =
    let start = c.args.monitor.now in
    let m = c.loop-state.monitor in
    let inv = c.loop-state.invariant in
    let G = ground_of start in
    let H = ground_of m in
    let same = ap₂ ground_on inv.1 inv.2 in
    c.stopped.ensures
    ∙ ap (stopped (told c.in-Err.refusal)) (c.count.ensures ∙ ap (λ n. length (states_of n)) (c.in-Err.ensures.same refl))
    ∙ sym (ends G H same (states_of m) (states_left c.loop-state.state-iterator) (states_left c.next.new.self) c.in-Some.state (count_of m) _ inv.0 c.in-Some.ensures.steps c.in-Err.refusal c.in-Err.ensures.is)
    ∙ inv.3

pub loop-state-preserved : goal.loop-state-preserved
loop-state-preserved g c =
    let start = c.args.monitor.now in
    let m = c.loop-state.monitor in
    let inv = c.loop-state.invariant in
    let G = ground_of start in
    let H = ground_of m in
    let same = ap₂ ground_on inv.1 inv.2 in
    let went = goes_on G H same (states_of m) (states_left c.loop-state.state-iterator) (states_left c.next.new.self) c.in-Some.state (count_of m) _ inv.0 c.in-Some.ensures.steps c.in_default.field-0 c.in_default.ensures.is in (
      c.in_default.ensures.counted refl,
      c.append.ensures.table ∙ inv.1,
      c.append.ensures.room ∙ inv.2,
      ap (λ ys. appended G ys (states_left c.next.new.self)) (c.in_default.ensures.taken refl) ∙ sym went ∙ inv.3,
    )
