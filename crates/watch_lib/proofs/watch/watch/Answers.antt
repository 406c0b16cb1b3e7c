use Rattle.std.proofs.Common.{vec_items}
use Rattle.std.proofs.lemmas.Result.{IfOk-weaker}
use Rattle.watch_lib.specs.Laws.{Only, PrintsFirst}
use Rattle.watch_lib.proofs.Unique.{one_output}
use Rattle.watch_lib.proofs.GoingOn.{prints_first}
use Rattle.watch_lib.proofs.watch.watch.Goals as goal

pub returns-clause-only : goal.returns-clause-only
returns-clause-only c =
    let input = c.args.input.now in
    IfOk-weaker c.watch_input.result _ (λ v. Only input (vec_items v)) (λ v w. one_output input (vec_items v) w) c.watch_input.ensures

pub returns-clause-first : goal.returns-clause-first
returns-clause-first c =
    let input = c.args.input.now in
    IfOk-weaker c.watch_input.result _ (λ v. PrintsFirst input (vec_items v)) (λ v w. prints_first input (vec_items v) w) c.watch_input.ensures
