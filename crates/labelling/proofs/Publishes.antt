-- Rows that are copied or made unknown, and the labels that they make. Assumes nothing.
use Rattle.std.proofs.Common.{◌≡◌, ℕ, ◌+◌, ◌-◌, ◌*◌, ◌<◌, ◌≤◌, min, Bool, true, false, List, length, get_or, drop, Decides, sym, ap, ◌∙◌, subst, ⊎_elim, arith}
use Rattle.std.proofs.lemmas.Bool.{cases_eq}
use Rattle.std.proofs.lemmas.Bool.Decides.{Decides-at}
use Rattle.std.proofs.lemmas.List.{get_or-take, get_or-drop}
use Rattle.labels.specs.Readings.{Reading, opened}
use Rattle.logic.specs.declared.types.Formula.{Formula}
use Rattle.logic.specs.declared.types.State.{State}
use Rattle.logic.specs.States.{state_at}
use Rattle.logic.specs.Logic.{Reads}
use Rattle.logic.specs.Tables.{tree, Flagged}
use Rattle.labelling.specs.Rows.{cell, row, Filled}
use Rattle.labelling.specs.Bound.{ClosedTold, Published}
use Rattle.labelling.specs.Whole.{LabelOf, HasLabels, place}
use Rattle.labelling.proofs.Places.{length_row}
use Rattle.labelling.proofs.Cells.{cell_at}
use Rattle.labelling.proofs.Nodes.{row_below}

-- a cell of a row, read at a default
row_cell : {K : Type 0} (reads : K → Reading) (n f : ℕ) (xs : List K) (q : ℕ) (d : K) → q < n → f * n + n ≤ length xs
    → (e : Bool) (c : ℕ) → reads (get_or xs (f * n + q) d) e c ≡ cell reads (row n f xs) q e c
row_cell reads n f xs q d less long e c =
    sym (cell_at reads (row n f xs) q d (omega (arith, length_row n f xs long)) e c
    ∙ ap (λ x. reads x e c) (get_or-take n (drop (f * n) xs) q d less ∙ get_or-drop (f * n) xs q d))

module _ {K : Type 0} (reads : K → Reading) (reach n : ℕ) where
  abbrev pub Row : List Bool → List K → List K → ℕ → Type 0
  Row flags work cells g =
      (get_or flags g false ≡ true → Filled reads reach (λ q. opened) (row n g cells) n)
      × (get_or flags g false ≡ false → Filled reads reach (λ q. cell reads (row n g work) q) (row n g cells) n)

  pub published_more : (flags : List Bool) (work xs ys : List K) (f : ℕ) → ((g : ℕ) → (g ≡ f → ⊥) → row n g ys ≡ row n g xs) → Row flags work ys f
      → Published reads reach n flags work xs f → Published reads reach n flags work ys (f + 1)
  published_more flags work xs ys f others here so_far g less =
      ⊎_elim
      (λ (e : g ≡ f). subst (Row flags work ys) (sym e) here)
      (λ ne.
      let old = so_far g (omega (arith, ne)) in
      let same = sym (others g ne) in (
        (λ h. subst (λ zs. Filled reads reach (λ q. opened) zs n) same (old.0 h)),
        (λ h. subst (λ zs. Filled reads reach (λ q. cell reads (row n g work) q) zs n) same (old.1 h)),
      ))
      (cases_eq g f)

  -- the labels that are published are those of the formulas
  pub label_of : (xs : List State) (table : List Formula) (flags : List Bool) (work cells : List K) → n ≡ length xs → Flagged table flags (length table)
      → ClosedTold reads reach n (state_at xs) table work (length table) → Published reads reach n flags work cells (length table) → length table * n ≤ length cells
      → HasLabels reads reach table xs cells
  label_of xs table flags work cells is flagged told out room =
      subst (λ k. (f i : ℕ) → f < length table → 1 ≤ i → i ≤ k → (d : K) → LabelOf reads reach table xs f i (get_or cells (place k f i) d)) is (λ f i less one le d.
      let fits : f * n + n ≤ length cells = omega (arith, row_below f (length table) n less) in
      let x = get_or cells (place n f i) d in
      let reading = row_cell reads n f cells (i - 1) d (omega arith) fits in (
        (λ closed v r c lo hi.
            subst (λ k. Decides (reads x r c) (Reads r (state_at xs) (min c k) v i (tree table f))) is
            (Decides-at _ _ (reading r c ∙ (out f less).1 (flagged f less ∙ closed) (i - 1) r c (omega arith) lo hi) (told f v less closed r c i lo hi (omega arith)))),
        (λ so r c lo hi. reading r c ∙ (out f less).0 (flagged f less ∙ so) (i - 1) r c (omega arith) lo hi),
      ))
