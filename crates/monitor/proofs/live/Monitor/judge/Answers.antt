use Rattle.monitor.proofs.Keeping.{keeps_promises}
use Rattle.monitor.proofs.live.Monitor.judge.Goals as goal

pub returns : goal.returns
returns g c own = keeps_promises c.args.self.now own
