use Rattle.traces.proofs.Unique.{one_reading_lem}
use Rattle.traces.proofs.laws.one_reading.Goals as goal

pub returns : goal.returns
returns c = one_reading_lem
