-- A table is orderly if its formulas are, one after another. Assumes nothing.
use Rattle.std.proofs.Common.{ℕ, zero, suc, ◌+◌, ◌<◌, List, [], ◌∷◌, length, get_or, subst, arith}
use Rattle.logic.specs.declared.types.Formula.{Formula}
use Rattle.logic.specs.declared.types.Formula.TheVariants.{True}
use Rattle.logic.specs.Tables.{Orderly, OrderlyTable}

-- the formulas are orderly from number n on
abbrev pub OrderlyFrom : (n : ℕ) → List Formula → Type 0
OrderlyFrom n [] = Unit {0}
OrderlyFrom n (φ ∷ more) = Orderly n φ × OrderlyFrom (n + 1) more

orderly_at : (n : ℕ) (formulas : List Formula) → OrderlyFrom n formulas → (f : ℕ) → f < length formulas → Orderly (n + f) (get_or formulas f True)
orderly_at n [] each f h = absurd (omega arith)
orderly_at n (φ ∷ more) each zero h = subst (λ k. Orderly k φ) (omega arith) each.0
orderly_at n (φ ∷ more) each (suc f) h = subst (λ k. Orderly k (get_or more f True)) (omega arith) (orderly_at (n + 1) more each.1 f (omega arith))

pub orderly_from : (formulas : List Formula) → OrderlyFrom 0 formulas → OrderlyTable formulas
orderly_from formulas each f h = subst (λ k. Orderly k (get_or formulas f True)) (omega arith) (orderly_at 0 formulas each f h)
