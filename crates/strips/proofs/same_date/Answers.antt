use Rattle.std.proofs.lemmas.Bool.{eq-eqb}
use Rattle.strips.proofs.Comparing.{dates_agree}
use Rattle.strips.proofs.same_date.Goals as goal

pub returns-clause-meaning : goal.returns-clause-meaning
returns-clause-meaning c = λ same by. eq-eqb _ _ (dates_agree _ _ _ _ c.date_of_truth.ensures.meaning c.date_of_truth-2.ensures.meaning same by)
