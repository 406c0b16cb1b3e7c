use Rattle.std.proofs.Common.{◌≡◌, min, length, take, drop, Err, ap, ◌∙◌, rules, arith, length-take}
use Rattle.std.proofs.lemmas.Result.{err_from_is_err_and}
use Rattle.std.proofs.lemmas.List.{take_rest}
use Rattle.table.specs.Tables.{rules_of}
use Rattle.textrecord.specs.Listed.{states_of}
use Rattle.refusals.specs.Numbers.{told}
use Rattle.bench_calls.specs.Outcomes.{stopped}
use Rattle.bench_calls.specs.Labelled.{unread}
use Rattle.bench_calls.proofs.Labellings.{text_labelled}
use Rattle.bench_calls.proofs.labelled.label_text.Goals as goal

pub returns-in-Ok : goal.returns-in-Ok
returns-in-Ok g c =
    let taken = c.in-Ok.rules in
    let cells = c.args.cells.now in
    let n = c.min-most.result in
    let most : length (take n cells) ≡ min c.args.room (length cells) = omega (arith, length-take n cells, c.min-most.ensures) in
    let alike : length (take n c.args.work.now) ≡ length (take n cells) = omega (arith, length-take n cells, length-take n c.args.work.now, c.requires.alike) in
    text_labelled g.K.LabelKind.reads g.K.LabelKind.reach c.args.room c.args.text.now _ _
    (record { rules = rules_of taken.value.draft; used = taken.used; whole = c.in-Ok.ensures; states = ap states_of (take_rest c.args.text.now taken.used) })
    cells c.args.work.now (take n cells) (take n c.args.work.now) c.label_states.new.cells c.label_states.new.work (drop n cells) c.requires.long most alike c.label_states.auto.cells
    c.label_states.result c.map_err.result c.label_states.ensures c.map_err.ensures.cases (λ w e. e)
    (λ why p. let q = err_from_is_err_and c.map_err.result p in let made : q.0 ≡ stopped (told why) 0 = search rules in q.1 ∙ ap Err made)

pub returns-in-Err : goal.returns-in-Err
returns-in-Err g c = unread c.in-Err.fault c.in-Err.ensures c.stopped.ensures
