use Rattle.std.proofs.Common.{◌≡◌, ◌+◌, [], ◌∷◌, length, drop, vec_items, ap, ◌∙◌, subst}
use Rattle.std.proofs.lemmas.Result.{IfOk-weaker}
use Rattle.faults.specs.Refusals.{refusal}
use Rattle.records.specs.Tabled.{table_room}
use Rattle.table.specs.Tables.{formulas_of, rules_of}
use Rattle.watch_lib.specs.declared.lines.Line.TheVariants.{Refused}
use Rattle.monitor.specs.Book.{ground}
use Rattle.watch_lib.specs.Watched.{Traced, Watched, unruled, traced}
use Rattle.watch_lib.proofs.watch.watch_input.Goals as goal

pub returns-in-Ok : goal.returns-in-Ok
returns-in-Ok c =
    let d = c.in-Ok.rules.value.draft in
    let input = c.args.input.now in
    let room : table_room c.new.result ≡ 256 = c.new.ensures.room in
    IfOk-weaker c.watch_log.result _ (λ v. Watched input (vec_items v))
    (λ v p. traced c.requires (formulas_of d) (rules_of d) c.in-Ok.rules.used c.in-Ok.ensures
    (subst (λ n. Traced (ground (formulas_of d) (rules_of d) n) (drop c.in-Ok.rules.used input) (length (formulas_of d) + length (rules_of d) + 3) (vec_items v)) room p))
    c.watch_log.ensures

pub returns-in-Err : goal.returns-in-Err
returns-in-Err c =
    IfOk-weaker c.only.result _ (λ v. Watched c.args.input.now (vec_items v))
    (λ v e. unruled c.requires c.in-Err.fault c.in-Err.ensures (e ∙ ap (λ l. l ∷ []) (c.refused.ensures ∙ ap (Refused (refusal c.in-Err.fault).number) c.place.ensures)))
    c.only.ensures
