-- Rows of cells under a binding of the variable. Assumes nothing.
use Rattle.std.proofs.Common.{◌≡◌, ℕ, ◌+◌, ◌-◌, ◌*◌, ◌<◌, ◌≤◌, min, Bool, true, false, ◌⊎◌, List, [], ◌++◌, length, get_or, Decides, sym, refl, ap, ◌∙◌, subst, inl, inr, ⊎_elim, arith}
use Rattle.std.proofs.lemmas.Bool.{cases_lt, cases_eq, true≢false, false≢true, false_from_ne_true}
use Rattle.std.proofs.lemmas.Bool.Decides.{Decides-like, Decides-at, same_from_decides}
use Rattle.labels.specs.Readings.{Reading}
use Rattle.logic.specs.declared.types.Formula.{Formula}
use Rattle.logic.specs.declared.types.Formula.TheVariants.{True, Signal, Nominal, Not, And, Or, Next, Previous, Until, Since, At, Variable, Reference, Bind, Some}
use Rattle.logic.specs.States.{Trace}
use Rattle.logic.specs.Logic.{Tree, Kept, Reads, some'}
use Rattle.logic.specs.Tables.{EachPart, binds, tree, loose, OrderlyTable}
use Rattle.logic.proofs.Keeps.{kept_in, kept_out, kept_past, past}
use Rattle.logic.proofs.Rows.{each_both, loose_is, loose_unbound, closed_parts}
use Rattle.labelling.specs.Rows.{cell, row}
use Rattle.labelling.specs.Tells.{Tells}
use Rattle.labelling.specs.Bound.{ClosedTold, AllTold, Through, Ready}
use Rattle.labelling.proofs.Cells.{cell_read}
use Rattle.labelling.proofs.Nodes.{row_below}
use Rattle.labelling.proofs.Places.{length_row, row_front, row_own}
use Rattle.labelling.proofs.Tellings.{tells_any}

-- of the first m formulas, those that are not loose and the wanted ones before k are told with the variable bound to v
abbrev pub ToldTo : {K : Type 0} → (K → Reading) → (reach n : ℕ) → Trace → List Formula → List Bool → (v : ℕ) → List K → (m k : ℕ) → Type 0
ToldTo reads reach n s table wanted v cells m k =
    (g : ℕ) → g < m → (loose table g ≡ true → (get_or wanted g false ≡ true) × (g < k)) → Tells reads reach n s v (tree table g) (row n g cells)

module _ {K : Type 0} (reads : K → Reading) (reach n : ℕ) (s : Trace) (table : List Formula) where
  module _ (wanted : List Bool) (v m : ℕ) where
    pub told_start : (xs : List K) → ClosedTold reads reach n s table xs m → ToldTo reads reach n s table wanted v xs m 0
    told_start xs h g less which = h g v less (false_from_ne_true (loose table g) (λ l. omega (arith, (which l).1)))

    pub told_skip : (xs : List K) (g : ℕ) → get_or wanted g false ≡ false → ToldTo reads reach n s table wanted v xs m g → ToldTo reads reach n s table wanted v xs m (g + 1)
    told_skip xs g not_so h k less which =
        h k less (λ l.
        let w = which l in (
          w.0,
          ⊎_elim (λ (e : k ≡ g). absurd (true≢false (sym w.0 ∙ ap (λ j. get_or wanted j false) e ∙ not_so))) (λ ne. omega (arith, ne, w.1)) (cases_eq k g),
        ))

    -- row g is told anew, and the others are as they were
    pub told_turn : (xs ys : List K) (g : ℕ) → ((k : ℕ) → k < m → (k ≡ g → ⊥) → row n k ys ≡ row n k xs) → Tells reads reach n s v (tree table g) (row n g ys)
        → ToldTo reads reach n s table wanted v xs m g → ToldTo reads reach n s table wanted v ys m (g + 1)
    told_turn xs ys g others here h k less which =
        ⊎_elim
        (λ (e : k ≡ g). subst (λ j. Tells reads reach n s v (tree table j) (row n j ys)) (sym e) here)
        (λ ne.
        subst (λ zs. Tells reads reach n s v (tree table k) zs) (sym (others k less ne))
        (h k less (λ l. let w = which l in (w.0, omega (arith, ne, w.1)))))
        (cases_eq k g)

    -- the parts of a wanted row tell, once the wanted rows before it do
    pub parts_told : (xs low : List K) (g : ℕ) → OrderlyTable table → g < length table → g < m → ((k : ℕ) → k < g → row n k xs ≡ row n k low) → EachPart (Ready table wanted) (get_or table g True) → ToldTo reads reach n s table wanted v xs m g
        → EachPart (λ k. Tells reads reach n s v (tree table k) (row n k low)) (get_or table g True)
    parts_told xs low g orderly within less same ready h =
        each_both (get_or table g True) (λ k. k < g) (Ready table wanted) (λ k. Tells reads reach n s v (tree table k) (row n k low))
        (λ k w r. subst (Tells reads reach n s v (tree table k)) (same k w) (h k (omega arith) (λ l. (r l, w)))) (orderly g within).1 ready

    -- after a pass the rows that are not loose tell whatever the name is bound to
    pub closed_again : (xs : List K) → AllTold reads reach n s table wanted v xs m → ClosedTold reads reach n s table xs m
    unfolding loose
    closed_again xs h g w less closed = tells_any reads reach n s v w (tree table g) (row n g xs) closed (h g less (λ l. absurd (true≢false (sym l ∙ closed))))

  pub unbound : (g : ℕ) → OrderlyTable table → g < length table → loose table g ≡ true → binds (get_or table g True) ≡ false
  unbound g orderly within h = loose_unbound (get_or table g True) (loose table) (sym (loose_is table orderly g within) ∙ h)

-- a cell of the row of a formula that was told, with the variable bound to v
pub bound_cell : {K : Type 0} (reads : K → Reading) (reach n : ℕ) (s : Trace) (table : List Formula) (wanted : List Bool) (f part v p : ℕ) (ys xs : List K) (x : K)
    → xs ≡ row n part ys → length ys ≡ f * n → part < f → p < n → x ≡ get_or xs p x → AllTold reads reach n s table wanted v ys f → Ready table wanted part
    → (e : Bool) (c : ℕ) → 0 < c → c ≤ reach → Decides (reads x e c) (Reads e s (min c n) v (p + 1) (tree table part))
bound_cell reads reach n s table wanted f part v p ys xs x is room low less at told ready e c lo hi =
    let long : length xs ≡ n = ap length is ∙ length_row n part ys (omega (arith, room, row_below part f n low)) in
    let same : reads x e c ≡ cell reads (row n part ys) (p + 1 - 1) e c =
    sym (cell_read reads xs p x (omega arith) at e c) ∙ ap (λ q. cell reads xs q e c) (omega arith) ∙ ap (λ zs. cell reads zs (p + 1 - 1) e c) is in
    Decides-at _ _ same (told part low ready e c (p + 1) lo hi (omega arith))

-- what a tree reads past the cut is as for any other
pub kept_same : (e : Bool) (s : Trace) (c v i : ℕ) (φ : Tree) (b : Bool) → Decides b (Reads e s c v i φ) → Decides b (Kept e c i (Reads e s c v i φ))
kept_same e s c v i φ b d =
    ⊎_elim
    (λ (w : c < i). Decides-at _ _ (same_from_decides _ _ d (past e s c v i φ w)) (kept_past e c i _ w))
    (λ (w : i ≤ c). Decides-like b (kept_in e c i w) (kept_out e c i w) d)
    (cases_lt c i)

module _ {K : Type 0} (reads : K → Reading) (reach n : ℕ) (s : Trace) (table : List Formula) (f : ℕ) where
  -- the rows before row f
  pub closed_low : (xs low rest : List K) → xs ≡ low ++ rest → length low ≡ f * n → ClosedTold reads reach n s table xs f → ClosedTold reads reach n s table low f
  closed_low xs low rest is long told g v less closed =
      subst (Tells reads reach n s v (tree table g)) (ap (row n g) is ∙ row_front n g low rest (omega (arith, long, row_below g f n less))) (told g v less closed)

  -- one more row, of a formula that is loose
  pub closed_skip : (xs : List K) → loose table f ≡ true → ClosedTold reads reach n s table xs f → ClosedTold reads reach n s table xs (f + 1)
  closed_skip xs is told g v less closed =
      ⊎_elim (λ (e : g ≡ f). absurd (true≢false (sym is ∙ ap (loose table) (sym e) ∙ closed))) (λ ne. told g v (omega (arith, ne)) closed) (cases_eq g f)

  -- one more row, of a formula that is not
  pub closed_more : (xs low own tail : List K) → xs ≡ low ++ (own ++ tail) → length low ≡ f * n → length own ≡ n
      → ClosedTold reads reach n s table low f → ((v : ℕ) → Tells reads reach n s v (tree table f) own) → ClosedTold reads reach n s table xs (f + 1)
  closed_more xs low own tail is at long told here g v less closed =
      ⊎_elim
      (λ (e : g ≡ f).
      subst (λ j. Tells reads reach n s v (tree table j) (row n j xs)) (sym e)
      (subst (Tells reads reach n s v (tree table f)) (sym (ap (row n f) is ∙ row_own n f low own [] at long tail)) (here v)))
      (λ ne.
      let lt : g < f = omega (arith, ne) in
      subst (Tells reads reach n s v (tree table g)) (sym (ap (row n g) is ∙ row_front n g low (own ++ tail) (omega (arith, at, row_below g f n lt)))) (told g v lt closed))
      (cases_eq g f)

-- `some`: the label of no target, and one more for each reference
module _ (s : Trace) (φ : Tree) (kind i : ℕ) (positive : 0 < kind) (e : Bool) (c : ℕ) where
  pub some_decides : (none one two : Bool) → (c < i → none ≡ e) → (i ≤ c → none ≡ false)
      → Decides one ((none ≡ true) ⊎ Through s φ kind (s i).first i e c)
      → Decides two ((one ≡ true) ⊎ Through s φ kind (s i).second i e c)
      → Decides two (Reads e s c 0 i (some' kind φ))
  some_decides none one two unknown unmet is_one is-two =
      ⊎_elim
      (λ (w : c < i).
      let start = past e s c 0 i (some' kind φ) w in (
        (λ t. start.0 (⊎_elim
            (λ (h : one ≡ true). ⊎_elim (λ (z : none ≡ true). sym (unknown w) ∙ z) (λ z. (past e s c (s i).first.target i φ w).1 z.1) (is_one.0 h))
            (λ z. (past e s c (s i).second.target i φ w).1 z.1)
            (is-two.0 t))),
        (λ k. is-two.1 (inl (is_one.1 (inl (unknown w ∙ start.1 k))))),
      ))
      (λ (w : i ≤ c). (
        (λ t. kept_in e c i w (⊎_elim
            (λ (h : one ≡ true).
            ⊎_elim
            (λ (z : none ≡ true). absurd (false≢true (sym (unmet w) ∙ z)))
            (λ z. ((s i).first.target, (positive, inl (z.0, refl)), z.1))
            (is_one.0 h))
            (λ z. ((s i).second.target, (positive, inr (z.0, refl)), z.1))
            (is-two.0 t))),
        (λ k. let u = kept_out e c i w k in
            ⊎_elim
            (λ l. is-two.1 (inl (is_one.1 (inr (l.0, subst (λ t. Reads e s c t i φ) (sym l.1) u.2)))))
            (λ l. is-two.1 (inr (l.0, subst (λ t. Reads e s c t i φ) (sym l.1) u.2)))
            u.1.1),
      ))
      (cases_lt c i)

module _ {K : Type 0} (reads : K → Reading) (reach n : ℕ) (s : Trace) (table : List Formula) (orderly : OrderlyTable table) (f : ℕ) (within : f < length table) where
  -- the parts of row f tell, where it is neither loose nor a binder
  pub closed_ready : (xs : List K) → binds (get_or table f True) ≡ false → loose table f ≡ false → ClosedTold reads reach n s table xs f → (v : ℕ)
      → EachPart (λ k. Tells reads reach n s v (tree table k) (row n k xs)) (get_or table f True)
  closed_ready xs plain closed told v =
      each_both (get_or table f True) (λ k. k < f) (λ k. loose table k ≡ false) (λ k. Tells reads reach n s v (tree table k) (row n k xs)) (λ k less c. told k v less c)
      (orderly f within).1 (closed_parts (get_or table f True) (loose table) plain (sym (loose_is table orderly f within) ∙ closed))

pub not_binder : (op : Formula) → ((a : ℕ) → op ≡ Bind a → ⊥) → ((k a : ℕ) → op ≡ Some k a → ⊥) → binds op ≡ false
not_binder True b h = refl
not_binder (Signal k) b h = refl
not_binder (Nominal k) b h = refl
not_binder (Not f) b h = refl
not_binder (And f g) b h = refl
not_binder (Or f g) b h = refl
not_binder (Next f) b h = refl
not_binder (Previous f) b h = refl
not_binder (Until f g) b h = refl
not_binder (Since f g) b h = refl
not_binder (At k f) b h = refl
not_binder Variable b h = refl
not_binder (Reference k) b h = refl
not_binder (Bind a) b h = absurd (b a refl)
not_binder (Some k a) b h = absurd (h k a refl)
