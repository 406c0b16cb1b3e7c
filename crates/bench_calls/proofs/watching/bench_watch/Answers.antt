use Rattle.watch_lib.specs.Printed.{Printed}
use Rattle.bench_calls.specs.Watching.{made}
use Rattle.bench_calls.proofs.watching.bench_watch.Goals as goal

pub returns-in-Ok : goal.returns-in-Ok
returns-in-Ok c =
    let printed : Printed c.args.input.now c.as_bytes.result.now = rw c.as_bytes.ensures.value c.in-Ok.ensures in
    made c.as_bytes.result.now printed c.put_output.ensures
