use Rattle.std.proofs.Common.{◌≡◌, ◌∙◌, subst, arith}
use Rattle.std.proofs.lemmas.Grind.{common_steps}
use Rattle.lawful.specs.Unlawful.{FirstUnlawful}
use Rattle.labelling.proofs.whole.label_whole.Goals as goal

-- the states in the rows are those of the record
pub returns-in_err-first_unlawful : goal.returns-in_err-first_unlawful
returns-in_err-first_unlawful g c =
    let xs = g.R.Readable.states c.args.log.now in
    let why = c.in_err-first_unlawful.field-0.0 in
    let read : c.new.result.rows.now ≡ xs = c.new.ensures ∙ c.read_states-states.ensures in
    let first : FirstUnlawful xs why = subst (λ ys. FirstUnlawful ys why) read c.in_err-first_unlawful.ensures in
    grind (arith, common_steps, first)
