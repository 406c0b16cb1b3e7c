-- Whole labelling of a monitor's own record. Assumes nothing.
use Rattle.std.proofs.Common.{◌≡◌, ℕ, ◌<◌, true, List, length, get_or, is_ok, Ok, Err, Result, ap, ◌∙◌, arith}
use Rattle.std.proofs.lemmas.Bool.{false≢true}
use Rattle.labels.specs.Readings.{Reading}
use Rattle.logic.specs.declared.types.State.{State}
use Rattle.refusals.specs.declared.Refusal.{Refusal}
use Rattle.labelling.specs.Whole.{place, Answered}
use Rattle.growth.specs.Laws.{read_as}
use Rattle.growth.proofs.Growing.{kinds_agree_lem}
use Rattle.answers.proofs.Telling.{label_told}
use Rattle.monitor.specs.declared.book.Book.{Book}
use Rattle.monitor.specs.Book.{formulas_in, ground_in}
use Rattle.monitor.specs.Whole.{Agrees}

-- the cells read as the monitor's answers
pub whole_agrees : {K : Type 0} (reads : K → Reading) (reach : ℕ) (b : Book) (room : ℕ) (xs : List State) (old oldWork new newWork : List K) (r : Result ℕ Refusal)
    → Answered reads reach (formulas_in b) xs old oldWork r new newWork → is_ok r ≡ true → Agrees reads (ground_in b room) xs new
whole_agrees reads reach b room xs old oldWork new newWork (Err why) a ok f i c v told d t = absurd (false≢true ok)
whole_agrees reads reach b room xs old oldWork new newWork (Ok n) a ok f i c v told d r =
    let asked = label_told (ground_in b room) xs f i c v told in
    let p = asked.0 in
    let done = a.1 in
    let within : f < length (formulas_in b) = p.is_formula in
    kinds_agree_lem reads reach (formulas_in b) xs f i done.short.0 done.lawful p.state_from p.state_to (get_or new (place (length xs) f i) d)
    ((done.labels f i within p.state_from p.state_to d).0 p.is_closed 0) c (omega (arith, p.state_from, p.point_from)) (omega (arith, p.point_to, done.short.1)) (omega (arith, p.point_to, done.short.0)) r
    ∙ ap (λ w. read_as w r) asked.1
