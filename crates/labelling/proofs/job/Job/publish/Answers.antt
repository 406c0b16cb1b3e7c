use Rattle.std.proofs.Common.{◌≡◌, ◌+◌, ◌-◌, ◌*◌, ◌≤◌, length, take, drop, sym, ap, ◌∙◌, subst, arith}
use Rattle.std.proofs.lemmas.Bool.{true≢false}
use Rattle.labels.specs.Readings.{opened}
use Rattle.labelling.specs.Rows.{cell, row, Filled}
use Rattle.labelling.proofs.Nodes.{row_below}
use Rattle.labelling.proofs.Places.{length_row, put_own, put_other}
use Rattle.labelling.proofs.Fills.{filled_by}
use Rattle.labelling.proofs.Publishes.{published_more}
use Rattle.labelling.proofs.job.Job.publish.Goals as goal
use Rattle.labelling.proofs.job.Job.publish.Goals.{then-loose, else-loose}

pub loop-f-preserved : goal.loop-f-preserved
loop-f-preserved g c =
    let reads = g.K.LabelKind.reads in
    let reach = g.K.LabelKind.reach in
    let job = c.args.self.now in
    let n = job.n in
    let flags = job.flags.now in
    let work = c.args.work.now in
    let f = c.loop-f.f in
    let xs = c.loop-f.cells in
    let ys = c.if-loose.cells in
    let inv = c.loop-f.invariant in
    elim c.if-loose.branch [
      | then-loose w ↦
          let k = f * n + n - f * n in
          let k-is : k ≡ n = omega arith in
          let below = row_below f (length job.table.now) n (omega (arith, c.loop-f-test.true, job.each)) in
          let room : f * n + n ≤ length xs = omega (arith, below, c.requires.1, c.loop-f.auto.cells) in
          let own = w.clear.new.cells in
          let long : length own ≡ n = w.clear.auto.cells ∙ ap (λ m. length (take m (drop (f * n) xs))) k-is ∙ length_row n f xs room in (
            published_more reads reach n flags work xs ys f (λ j ne. ap (row n j) w.cells-is ∙ put_other n f k xs own k-is room long j ne) (
              (λ h. subst (λ zs. Filled reads reach (λ q. opened) zs n) (sym (ap (row n f) w.cells-is ∙ put_own n f k xs own k-is room long))
                  (λ q e j less. filled_by reads reach (λ q. opened) own (λ p d fits. w.clear.ensures p d (omega (arith, fits, w.clear.auto.cells))) q e j (omega arith))),
              (λ h. absurd (true≢false (sym w.if-loose.true ∙ h))),
            )
                inv.0,
            (λ j le. ap (row n j) w.cells-is ∙ put_other n f k xs own k-is room long j (λ e. omega (arith, le, e)) ∙ inv.1 j (omega (arith, le))),
          )
      | else-loose w ↦ (
        published_more reads reach n flags work xs ys f (λ j ne. ap (row n j) w.cells-is) (
          (λ h. absurd (true≢false (sym h ∙ w.if-loose.false))),
          (λ h q e j less lo hi. ap (λ zs. cell reads zs q e j) (ap (row n f) w.cells-is ∙ inv.1 f (omega arith))),
        )
            inv.0,
        (λ j le. ap (row n j) w.cells-is ∙ inv.1 j (omega (arith, le))),
      )
    ]
