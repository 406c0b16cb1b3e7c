-- Labels of one log in two kinds tell the same. Assumes nothing.
use Rattle.std.proofs.Common.{◌≡◌, ℕ, ◌+◌, ◌-◌, ◌*◌, ◌/◌, ◌%◌, ◌<◌, ◌≤◌, true, false, List, length, get_or, sym, ap, ◌∙◌, subst, ⊎_elim, arith}
use Rattle.std.proofs.lemmas.Bool.{cases_Bool, cases_lt}
use Rattle.std.proofs.lemmas.Bool.Decides.{same_from_decides}
use Rattle.std.proofs.lemmas.List.{get_or-drop}
use Rattle.std.proofs.lemmas.Nat.{div-add-mod', div_below, mod_below}
use Rattle.labels.specs.Readings.{Reading, Same, opened}
use Rattle.logic.specs.declared.types.Formula.{Formula}
use Rattle.logic.specs.declared.types.State.{State}
use Rattle.logic.specs.Tables.{loose}
use Rattle.labelling.specs.Rows.{Cleared}
use Rattle.labelling.specs.Whole.{LabelOf, Labelled}
use Rattle.kinds_agree.specs.Sames.{SameTo}

-- cells after those of the labels are unknown where they were so before
module _ {K : Type 0} (reads : K → Reading) (reach : ℕ) (table : List Formula) (xs : List State) (old work new work_after : List K)
    (done : Labelled reads reach table xs old work new work_after) (blank : Cleared reads reach old (length old)) where
  pub blank_later : (k : ℕ) (d : K) → length table * length xs ≤ k → k < length old → Same reach (reads (get_or new k d)) opened
  blank_later k d past less e c lo hi =
      let total = length table * length xs in
      let at : total + (k - total) ≡ k = omega arith in
      let kept : get_or new k d ≡ get_or old k d =
      ap (λ j. get_or new j d) (sym at) ∙ sym (get_or-drop total new (k - total) d) ∙ ap (λ cells. get_or cells (k - total) d) done.later
      ∙ get_or-drop total old (k - total) d ∙ ap (λ j. get_or old j d) at in
      ap (λ x. reads x e c) kept ∙ blank k d less e c lo hi

module _ {A B : Type 0} (readsA : A → Reading) (readsB : B → Reading) (reachA reachB : ℕ) (longA : 64 ≤ reachA) (longB : 64 ≤ reachB) (table : List Formula) (xs : List State) where
  labels_same : (f i : ℕ) (x : A) (y : B) → LabelOf readsA reachA table xs f i x → LabelOf readsB reachB table xs f i y → Same 64 (readsA x) (readsB y)
  labels_same f i x y a b e c lo hi =
      ⊎_elim
      (λ (so : loose table f ≡ true). a.1 so e c lo (omega arith) ∙ sym (b.1 so e c lo (omega arith)))
      (λ (so : loose table f ≡ false). same_from_decides (readsA x e c) (readsB y e c) (a.0 so 0 e c lo (omega arith)) (b.0 so 0 e c lo (omega arith)))
      (cases_Bool (loose table f))

  module _ (oldA workA newA afterA : List A) (oldB workB newB afterB : List B)
      (inA : Labelled readsA reachA table xs oldA workA newA afterA) (inB : Labelled readsB reachB table xs oldB workB newB afterB)
      (blankA : Cleared readsA reachA oldA (length oldA))
      (blankB : Cleared readsB reachB oldB (length oldB)) where
    in_table : (k : ℕ) (x : A) (y : B) → k < length table * length xs → Same 64 (readsA (get_or newA k x)) (readsB (get_or newB k y))
    in_table k x y less =
        let n = length xs in
        let some : 0 < n = grind arith in
        let f = k / n in
        let i = k % n + 1 in
        let at : f * n + (i - 1) ≡ k = omega (arith, div-add-mod' k n) in
        let within : f < length table = div_below k n (length table) some less in
        let here : i ≤ n = omega (arith, mod_below k n some) in
        subst (λ j. Same 64 (readsA (get_or newA j x)) (readsB (get_or newB j y))) at
        (labels_same f i (get_or newA (f * n + (i - 1)) x) (get_or newB (f * n + (i - 1)) y) (inA.labels f i within (omega arith) here x) (inB.labels f i within (omega arith) here y))

    pub cells_same : (n : ℕ) → n ≤ length oldA → n ≤ length oldB → SameTo readsA readsB newA newB n
    cells_same n a b k x y less =
        ⊎_elim
        (λ (inside : k < length table * length xs). in_table k x y inside)
        (λ (past : length table * length xs ≤ k). λ e c lo hi.
        blank_later readsA reachA table xs oldA workA newA afterA inA blankA k x past (omega arith) e c lo (omega arith)
        ∙ sym (blank_later readsB reachB table xs oldB workB newB afterB inB blankB k y past (omega arith) e c lo (omega arith)))
        (cases_lt k (length table * length xs))
