use Rattle.std.proofs.Common.{length, ◌∙◌, arith, ◌≤◌}
use Rattle.textrecord.proofs.Next.{few}
use Rattle.textrecord.specs.Listed.{states_of}
use Rattle.textrecord.specs.Left.{states_left}
use Rattle.bench_calls.proofs.Gathered.{gathered}
use Rattle.bench_calls.proofs.gathering.gather.Goals as goal

pub loop-state-preserved : goal.loop-state-preserved
loop-state-preserved g c =
    let fits : length (states_of c.args.text.now) ≤ g.R.Growing.room c.loop-state.log = omega (arith, few 256 0 c.args.text.now, c.loop-state.invariant.0) in (
      c.append.ensures.kept ∙ c.loop-state.invariant.0,
      gathered (g.R.Readable.states c.loop-state.log) (g.R.Readable.states c.append.new.self) (states_left c.loop-state.state-iterator) (states_left c.next.new.self) (states_of c.args.text.now) c.in-Some.state
          _ c.append.result fits c.loop-state.invariant.1 c.in-Some.ensures.steps c.append.ensures.appended,
    )
