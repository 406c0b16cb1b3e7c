use Rattle.std.proofs.Common.{refl, inl}
use Rattle.bench_calls.proofs.Dates.{dates_told}
use Rattle.bench_calls.proofs.in_dates.bench_label_dated.Goals as goal

pub returns-in-Ok : goal.returns-in-Ok
returns-in-Ok c = dates_told c.args.text.now _ c.args.labels.now _ c.in-Ok.counts c.done.result c.in-Ok.ensures c.put_numbers.ensures c.done.ensures

pub returns-in-Err : goal.returns-in-Err
returns-in-Err c = inl (c.in-Err.ensures, refl)
