use Rattle.std.proofs.Common.{◌≡◌, ℕ, ◌-◌, ◌<◌, ◌≤◌, false, get_or, replicate, length, ⊎_elim, arith}
use lib.ListN.{get_or-replicate, length-replicate}
use Rattle.std.proofs.lemmas.Bool.{cases_lt}
use Rattle.std.proofs.lemmas.List.{get_or_past}
use Rattle.labelling.proofs.Cones.{cone_start, cone_plain, cone_turn, cone_skip}
use Rattle.labelling.proofs.job.Job.cone.Goals as goal

none_wanted : (k : ℕ) → get_or (replicate 64 false) k false ≡ false
none_wanted k = ⊎_elim (λ (w : k < 64). get_or-replicate 64 k false false w) (λ (w : 64 ≤ k). get_or_past (replicate 64 false) k false (simp length-replicate w)) (cases_lt k 64)

pub loop-g-init : goal.loop-g-init
loop-g-init c =
    let job = c.args.self.now in
    cone_start job.table.now job.orderly job.flags.now job.flagged c.args.a c.requires (replicate 64 false) c.want.new.wanted none_wanted c.want.ensures.grown c.want.ensures.ready

pub want_parts-requires : goal.want_parts-requires
want_parts-requires c =
    let job = c.args.self.now in
    let k = c.loop-g.g - 1 in
    let lt : k < length job.table.now = omega arith in (
      job.orderly k lt,
      omega (arith, job.each),
      omega (arith, job.few),
      cone_plain job.table.now job.orderly job.flags.now job.flagged c.args.a c.requires c.loop-g.wanted c.loop-g.g k c.loop-g.invariant c.if-wanted-g.true,
    )

pub loop-g-preserved-then-wanted-g : goal.loop-g-preserved-then-wanted-g
loop-g-preserved-then-wanted-g c =
    let job = c.args.self.now in
    cone_turn job.table.now job.orderly job.flags.now job.flagged c.args.a c.requires c.loop-g.wanted c.want_parts.new.wanted c.loop-g.g (c.loop-g.g - 1) (omega arith) (omega arith)
    c.want_parts.ensures.grown c.want_parts.ensures.ready c.loop-g.invariant

pub loop-g-preserved : goal.loop-g-preserved
loop-g-preserved c =
    let job = c.args.self.now in
    cone_skip job.table.now job.orderly job.flags.now job.flagged c.args.a c.requires c.loop-g.wanted c.loop-g.g (c.loop-g.g - 1) (omega arith) c.if-wanted-g.false c.loop-g.invariant
