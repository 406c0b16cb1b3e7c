use Rattle.std.proofs.Common.{◌≢◌, ◌∙◌, arith, below_more}
use Rattle.monitor.proofs.Tallies.{tally_same}
use Rattle.monitor.proofs.book.Book.recount.Goals as goal

pub loop-r-preserved : goal.loop-r-preserved
loop-r-preserved c =
    let inv = c.loop-r.invariant in
    let r = c.recount_rule.ensures in
    let same = r.same in (
      (same.0 ∙ inv.0.0, same.1 ∙ inv.0.1, same.2 ∙ inv.0.2, same.3 ∙ inv.0.3),
      below_more _ _
          (λ k h. let ne : k ≢ c.loop-r.r = omega arith in r.others k ne ∙ inv.1 k h ∙ tally_same c.loop-r.self c.recount_rule.new.self same k)
          r.right,
    )
