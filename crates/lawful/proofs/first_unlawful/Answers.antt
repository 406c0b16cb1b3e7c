use Rattle.logic.specs.States.{state_at}
use Rattle.lawful.proofs.Seen.{passed_none}
use Rattle.lawful.proofs.first_unlawful.Goals as goal

pub loop-p-init : goal.loop-p-init
loop-p-init g c = passed_none (state_at (g.R.Readable.states c.args.log.now))
