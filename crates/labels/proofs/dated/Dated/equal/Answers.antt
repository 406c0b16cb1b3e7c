use Rattle.std.proofs.Common.{◌≡◌, arith}
use Rattle.std.proofs.lemmas.Int.{ints}
use Rattle.labels.proofs.Dates.{number_by_meaning}
use Rattle.labels.proofs.dated.Dated.equal.Goals as goal

pub returns-clause-meaning : goal.returns-clause-meaning
returns-clause-meaning c = λ same.
    let x = c.args.self in
    let y = c.args.other in
    let number : x.value ≡ y.value = number_by_meaning x.value y.value x.low x.high y.low y.high same in
    grind (arith, ints)
