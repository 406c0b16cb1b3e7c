use Rattle.bench_calls.specs.Outcomes.{taken, refused}
use Rattle.bench_calls.proofs.readers.bench_read_rules.Goals as goal

pub returns-in-Ok : goal.returns-in-Ok
returns-in-Ok c = taken _ _ c.in-Ok.rules.used c.in-Ok.ensures c.done.ensures

pub returns-in-Err : goal.returns-in-Err
returns-in-Err c = refused c.in-Err.fault c.in-Err.ensures c.stopped.ensures
