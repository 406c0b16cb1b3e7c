-- A formula of a table, by its operator and its parts. Assumes nothing.
use Rattle.std.proofs.Common.{◌≡◌, ℕ, ◌+◌, ◌*◌, ◌<◌, ◌≤◌, List, length, get_or, sym, ap, ◌∙◌, subst, add-mul, one-mul, arith}
use Rattle.std.proofs.lemmas.Nat.{mul-le}
use Rattle.labels.specs.Readings.{Reading}
use Rattle.logic.specs.declared.types.Formula.{Formula}
use Rattle.logic.specs.declared.types.Formula.TheVariants.{True}
use Rattle.logic.specs.States.{Trace}
use Rattle.logic.specs.Tables.{node, EachPart, InRange, tree, OrderlyTable}
use Rattle.logic.proofs.Rows.{tree_is, each_map}
use Rattle.labelling.specs.Rows.{row}
use Rattle.labelling.specs.Tells.{Tells}

-- the row of a formula with a lower number ends before the row of f begins
pub row_below : (a f n : ℕ) → a < f → a * n + n ≤ f * n
row_below a f n h = omega (arith, mul-le (a + 1) n f n (omega arith) (omega arith), add-mul a 1 n, one-mul n)

module _ (table : List Formula) (orderly : OrderlyTable table) (f : ℕ) (within : f < length table) (φ : Formula) (is : get_or table f True ≡ φ) where
  pub parts_below : EachPart (λ g. g < f) φ
  parts_below = subst (EachPart (λ g. g < f)) is (orderly f within).1

  pub within_range : InRange φ
  within_range = subst InRange is (orderly f within).0

  pub each_part : (P : ℕ → Type 0) → EachPart P (get_or table f True) → EachPart P φ
  each_part P e = subst (EachPart P) is e

  pub tells_node : {K : Type 0} (reads : K → Reading) (reach n : ℕ) (s : Trace) (v : ℕ) (xs : List K)
      → Tells reads reach n s v (node φ (tree table)) xs → Tells reads reach n s v (tree table f) xs
  tells_node reads reach n s v xs t =
      subst (λ ψ. Tells reads reach n s v ψ xs) (sym (tree_is table orderly f within ∙ ap (λ o. node o (tree table)) is)) t

-- a row that tells of the operator, once the rows of the parts tell, tells of the formula; m and n are the same count of states
module _ (table : List Formula) (orderly : OrderlyTable table) (f : ℕ) (within : f < length table) (φ : Formula) (is : get_or table f True ≡ φ)
    {K : Type 0} (reads : K → Reading) (reach m n : ℕ) (same : m ≡ n) (s : Trace) (v : ℕ) (before own : List K)
    (parts : EachPart (λ g. Tells reads reach n s v (tree table g) (row n g before)) (get_or table f True)) where
  pub told_node : (EachPart (λ g. Tells reads reach m s v (tree table g) (row n g before)) φ → Tells reads reach m s v (node φ (tree table)) own) → Tells reads reach n s v (tree table f) own
  told_node told =
      tells_node table orderly f within φ is reads reach n s v own
      (subst (λ k. Tells reads reach k s v (node φ (tree table)) own) same
      (told (each_map φ (λ g. Tells reads reach n s v (tree table g) (row n g before)) (λ g. Tells reads reach m s v (tree table g) (row n g before))
      (λ g t. subst (λ k. Tells reads reach k s v (tree table g) (row n g before)) (sym same) t)
      (each_part table orderly f within φ is (λ g. Tells reads reach n s v (tree table g) (row n g before)) parts))))
