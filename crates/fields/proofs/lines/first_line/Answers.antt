use Rattle.std.proofs.Common.{arith, ◌∙◌, sym, rules}
use Rattle.std.proofs.lemmas.Result.{err_from_is_err_and}
use Rattle.fields.proofs.Ends.{line_by_place, torn_by_place}
use Rattle.fields.proofs.lines.first_line.Goals as goal

pub returns-in_err-n : goal.returns-in_err-n
returns-in_err-n c =
    let p = err_from_is_err_and c.from_residual.result c.from_residual.ensures.1 in
    rw (p.1, p.2) (grind arith, torn_by_place c.args.text.now c.min.result (search rules) (sym c.place_of.ensures ∙ c.in_err-n.ensures.ok_part))

pub returns : goal.returns
returns c = line_by_place c.args.text.now c.min.result (search rules) c.in_ok-n.n (sym c.place_of.ensures ∙ c.in_ok-n.ensures.ok_part)
