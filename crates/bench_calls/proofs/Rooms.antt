-- Memory that is longer than any labelling needs. Assumes nothing.
use Rattle.std.proofs.Common.{ℕ, ◌*◌, ◌<◌, ◌≤◌, min, List, length, ap, arith}
use Rattle.std.proofs.Math.Nat.{mul-le-mul}
use Rattle.std.proofs.lemmas.List.{length-map}
use Rattle.logic.specs.declared.types.Formula.{Formula}
use Rattle.logic.specs.declared.types.Rule.{Rule}
use Rattle.logic.specs.declared.types.State.{State}
use Rattle.refusals.specs.declared.Refusal.{Refusal}
use Rattle.refusals.specs.declared.Refusal.TheVariants as refusal
use Rattle.rulelines.specs.Meanings.{meaning}
use Rattle.rulestexts.specs.Texts.{Whole}
use Rattle.labelling.specs.Whole.{place, Declined}
use Rattle.labelling.proofs.Nodes.{row_below}

-- a cell of a formula and a state is one of formulas times states
pub cell_within : (f i formulas n : ℕ) → f < formulas → 1 ≤ i → i ≤ n → place n f i < formulas * n
cell_within f i formulas n h a b = omega (arith, row_below f formulas n h)

-- a rules text has at most 64 formulas
pub few_formulas : (text : List ℕ) (formulas : List Formula) (rules : List Rule) (used : ℕ) → Whole text formulas rules used → length formulas ≤ 64
few_formulas text formulas rules used w =
    omega (arith, w.formula_lines.counts.ranged.1, ap length w.means, length-map w.entries meaning)

module _ (reach most room : ℕ) (enough : 64 * reach ≤ most) where
  total_within : (formulas n : ℕ) → formulas ≤ 64 → n ≤ reach → formulas * n ≤ most
  total_within formulas n f h = let m : formulas * n ≤ 64 * reach = mul-le-mul f h in omega arith

  -- whole labelling declines as it does in all the room
  pub declined_alike : (table : List Formula) (xs : List State) (why : Refusal) → length table ≤ 64
      → Declined table xs reach (min room most) (min room most) why → Declined table xs reach room room why
  declined_alike table xs refusal.MemoryTooShort few d =
      (d.0, λ r. d.1 (let m : length table * length xs ≤ most = total_within (length table) (length xs) few d.0.1 in (omega (arith, r.0), omega (arith, r.0))))
  declined_alike table xs (refusal.NominalTaken i) few d = (d.0, (omega (arith, d.1.0), omega (arith, d.1.0)), d.2)
  declined_alike table xs (refusal.ReferenceUnfit i) few d = (d.0, (omega (arith, d.1.0), omega (arith, d.1.0)), d.2)
  declined_alike table xs _ few d = d
