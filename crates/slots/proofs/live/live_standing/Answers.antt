use Rattle.std.proofs.Common.{◌≡◌, ◌+◌, List, [], ◌∷◌, length, get_or, drop, Ok, ap, ◌∙◌, ap₂, arith}
use Rattle.logic.specs.declared.types.State.{State}
use Rattle.logic.specs.States.{blank}
use Rattle.answers.specs.declared.types.Call.TheVariants.{Append, StandingAt}
use Rattle.answers.specs.Answers.{after}
use Rattle.answers.proofs.Stepping.{own_grown}
use Rattle.monitor.specs.Book.{ground_on}
use Rattle.monitor.specs.Live.{states_of, count_of, ground_of}
use Rattle.slots.specs.Slots.{double_free_log}
use Rattle.slots.specs.Instances.{slots, log_to}
use Rattle.slots.proofs.Lasting.{slots_are}
use Rattle.slots.proofs.Instances.{first_three, next_state, promised_here, promised_then, promised_at_4, stands_violated, instances}
use Rattle.slots.proofs.live.live_standing.Goals as goal

pub loop-state-init : goal.loop-state-init
loop-state-init c =
    let table = c.in_ok-slot_table.ensures in
    let new = c.new.ensures in
    let calling = c.call_all-called.ensures in
    let is-slots = slots_are _ _ _ table.0 table.1 new.room in
    let calls = ap (λ l. Append (get_or l 0 blank) ∷ Append (get_or l 1 blank) ∷ Append (get_or l 2 blank) ∷ []) c.double_free.ensures in
    record {
      ground = ap₂ ground_on calling.made.0 calling.made.1 ∙ is-slots;
      states = first_three _ _ _ _ _ is-slots new.empty calls (calling.ran (omega arith));
      own = (calling.empty (ap length new.empty)).own;
    }

pub loop-state-preserved : goal.loop-state-preserved
loop-state-preserved c =
    let m = c.loop-state.monitor in
    let k = c.loop-state.state-index in
    let inv = c.loop-state.invariant in
    let r = c.append.ensures in
    let state = get_or (drop 3 double_free_log) k blank in
    let kth : List State → State = λ l. get_or (get_or l 3 blank ∷ get_or l 4 blank ∷ get_or l 5 blank ∷ []) k blank in
    record {
      ground = ap₂ ground_on r.table r.room ∙ inv.ground;
      states =
          r.states ∙ own_grown (count_of m) (ground_of m) (states_of m) (Append (kth c.double_free.result)) inv.own
          ∙ ap (λ l. after (ground_of m) (states_of m) (Append (kth l))) c.double_free.ensures
          ∙ ap (λ G. after G (states_of m) (Append state)) inv.ground ∙ ap (λ xs. after slots xs (Append state)) inv.states
          ∙ next_state k c.loop-state-test.true;
      own = r.own inv.own;
    }

pub returns : goal.returns
returns c =
    let table = c.in_ok-slot_table.ensures in
    let new = c.new.ensures in
    let calling = c.call_all-called.ensures in
    let first = c.call_all-called.result.monitor in
    let last = c.loop-state.monitor in
    let inv = c.loop-state.invariant in
    let is-slots = slots_are _ _ _ table.0 table.1 new.room in
    let made = ap₂ ground_on calling.made.0 calling.made.1 ∙ is-slots in
    let calls = ap (λ l. Append (get_or l 0 blank) ∷ Append (get_or l 1 blank) ∷ Append (get_or l 2 blank) ∷ []) c.double_free.ensures in
    let three = first_three _ _ _ _ _ is-slots new.empty calls (calling.ran (omega arith)) in
    let at_3 = (calling.empty (ap length new.empty)).promises in
    let ended : c.loop-state.state-index ≡ 3 = omega (arith, c.loop-state-test.false, c.loop-state.auto.state-index-end) in
    let whole : states_of last ≡ double_free_log = inv.states ∙ ap (λ k. log_to (3 + k)) ended in
    let at_6 = c.judge.ensures inv.own in
    record {
      told = ap Ok (stands_violated (ground_of last) (states_of last) _ _ inv.ground whole c.standing.ensures.told (at_6.replies (StandingAt 0 3 6)));
      promised =
          instances (promised_here _ _ _ made three at_3.now) (promised_at_4 (promised_then (ground_of first) (states_of first) (log_to 3) made three at_3.later))
          (promised_here _ _ _ inv.ground whole at_6.now) (promised_then (ground_of last) (states_of last) double_free_log inv.ground whole at_6.later);
    }
