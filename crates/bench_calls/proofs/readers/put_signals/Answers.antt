use Rattle.std.proofs.Common.{◌≡◌, ◌+◌, suc, map, length, min, ap, sym, ◌∙◌, ◌≤◌, arith}
use Rattle.std.proofs.lemmas.List.{take-map, length-map}
use Rattle.logic.specs.declared.types.State.{State}
use Rattle.logic.specs.States.{blank, state_at}
use Rattle.bench_calls.specs.Memory.{over}
use Rattle.bench_calls.proofs.Overs.{over_step, over_room}
use Rattle.bench_calls.proofs.readers.put_signals.Goals as goal

pub loop-k-preserved : goal.loop-k-preserved
loop-k-preserved g c =
    let xs = g.R.Readable.states c.args.log.now in
    let n : c.loop-k.k + 1 ≡ suc c.loop-k.k = omega arith in
    over_step (λ (q : State). q.signals) xs c.args.signals.now c.loop-k.signals c.loop-k.k blank _ (omega arith) (omega arith) c.loop-k.invariant
    (ap (λ (q : State). q.signals) (c.state.ensures ∙ ap (state_at xs) n))

pub returns : goal.returns
returns g c =
    let xs = g.R.Readable.states c.args.log.now in
    let old = c.args.signals.now in
    let k = c.loop-k.k in
    let whole : min (length (map (λ (q : State). q.signals) xs)) (length old) ≤ k = omega (arith, length-map xs (λ (q : State). q.signals)) in
    c.loop-k.invariant ∙ ap (λ z. over z old) (sym (take-map (λ (q : State). q.signals) k xs)) ∙ over_room (map (λ (q : State). q.signals) xs) old k whole
