use Rattle.std.proofs.Common.{◌+◌, ◌<◌, ◌≤◌, length, drop, sym, ap, ◌∙◌, subst, arith, length-append, length-take-le}
use Rattle.logic.specs.States.{state_at}
use Rattle.labelling.specs.Bound.{ClosedTold}
use Rattle.labelling.proofs.Nodes.{row_below}
use Rattle.labelling.proofs.Bounds.{closed_low, closed_skip, closed_more}
use Rattle.labelling.proofs.job.Job.label_table.Goals as goal
use Rattle.labelling.proofs.job.Job.label_table.Goals.{then-not-loose, else-not-loose}

pub label_closed-requires-clause-known : goal.label_closed-requires-clause-known
label_closed-requires-clause-known g c =
    let job = c.args.self.now in
    closed_low g.K.LabelKind.reads g.K.LabelKind.reach job.n (state_at job.states.now) job.table.now c.loop-f.f c.loop-f.cells
    c.split_at_mut-before.result.0.now c.split_at_mut-before.result.1.now c.split_at_mut-before.ensures.value c.split_at_mut-before.ensures.front_len c.loop-f.invariant

pub loop-f-preserved : goal.loop-f-preserved
loop-f-preserved g c =
    let reads = g.K.LabelKind.reads in
    let reach = g.K.LabelKind.reach in
    let job = c.args.self.now in
    let n = job.n in
    let table = job.table.now in
    let s = state_at job.states.now in
    let f = c.loop-f.f in
    let within : f < length table = omega (arith, c.loop-f-test.true, job.each) in
    elim c.if-not-loose.branch [
      | then-not-loose w ↦
          let low = w.label_closed.new.before in
          let rest = w.split_at_mut-before.result.1.now in
          let own = w.label_closed.new.own in
          let at = w.label_closed.auto.before ∙ w.split_at_mut-before.ensures.front_len in
          let room : n ≤ length rest = omega (arith, ap length w.split_at_mut-before.ensures.value, length-append w.split_at_mut-before.result.0.now rest, w.split_at_mut-before.ensures.front_len, row_below f (length table) n within, c.requires.room, c.loop-f.auto.cells) in
          closed_more reads reach n s table f c.if-not-loose.cells low own (drop n rest) w.cells-is at (w.label_closed.auto.own ∙ length-take-le n rest room) w.label_closed.ensures.known w.label_closed.ensures.told
      | else-not-loose w ↦
          subst (λ zs. ClosedTold reads reach n s table zs (f + 1)) (sym w.cells-is)
          (closed_skip reads reach n s table f c.loop-f.cells (sym (job.flagged f within) ∙ w.if-not-loose.false) c.loop-f.invariant)
    ]

pub returns : goal.returns
returns g c = record { told = λ j v less. c.loop-f.invariant j v (omega (arith, c.args.self.now.each)) }
