-- A formula more keeps the order of those before it. Assumes nothing.
use Rattle.std.proofs.Common.{◌≡◌, ℕ, zero, suc, ◌+◌, ◌<◌, ◌≢◌, Bool, false, List, [], ◌∷◌, ◌++◌, length, get_or, take, set, sym, refl, ap, ◌∙◌, subst, ⊎_elim, arith, length-append, length-take, get_or-set_other, get_or-set_same}
use Rattle.std.proofs.Math.Seq.{get_or-append_seam}
use Rattle.std.proofs.lemmas.Bool.{cases_eq}
use Rattle.std.proofs.lemmas.List.{get_or_append_left, get_or-take, length-take-le, take_more_set}
use Rattle.logic.specs.Logic.{is_loose}
use Rattle.logic.specs.declared.types.Formula.{Formula}
use Rattle.logic.specs.declared.types.Formula.TheVariants.{True}
use Rattle.logic.specs.declared.types.Rule.{Rule}
use Rattle.logic.specs.Tables.{Orderly, OrderlyTable, Flagged, node, loose_by, loose, tree, tree_to}
use Rattle.logic.proofs.Rows.{node_same, each_map, loose_same, flagged_more}
use Rattle.table.specs.declared.finished.Table.{Table}
use Rattle.table.specs.Order.{EachRuled, InOrder}
use Rattle.table.specs.Tables.{formulas_of, rules_of}

module _ (formulas : List Formula) (orderly : OrderlyTable formulas) (φ : Formula) where
  longer : length (formulas ++ φ ∷ []) ≡ length formulas + 1
  longer = length-append formulas (φ ∷ [])

  there : (f : ℕ) → f < length formulas → get_or (formulas ++ φ ∷ []) f True ≡ get_or formulas f True
  there f h = get_or_append_left formulas (φ ∷ []) True f h

  pub orderly_more : Orderly (length formulas) φ → OrderlyTable (formulas ++ φ ∷ [])
  orderly_more new f h =
      ⊎_elim
      (λ (e : f ≡ length formulas). subst (λ k. Orderly k (get_or (formulas ++ φ ∷ []) k True)) (sym e) (subst (Orderly (length formulas)) (sym (get_or-append_seam formulas φ [] True)) new))
      (λ ne. let w : f < length formulas = omega (arith, ne, longer) in subst (Orderly f) (sym (there f w)) (orderly f w))
      (cases_eq f (length formulas))

  tree_there : (m f : ℕ) → f < length formulas → tree_to m (formulas ++ φ ∷ []) f ≡ tree_to m formulas f
  unfolding tree_to
  tree_there zero f h = refl
  tree_there (suc m) f h =
      ap (λ ψ. node ψ (tree_to m (formulas ++ φ ∷ []))) (there f h)
      ∙ node_same (get_or formulas f True) (tree_to m (formulas ++ φ ∷ [])) (tree_to m formulas)
      (each_map (get_or formulas f True) (λ k. k < f) (λ k. tree_to m (formulas ++ φ ∷ []) k ≡ tree_to m formulas k)
      (λ k w. tree_there m k (omega arith)) (orderly f h).1)

  pub loose_there : (f : ℕ) → f < length formulas → loose (formulas ++ φ ∷ []) f ≡ loose formulas f
  unfolding loose tree
  loose_there f h = ap is_loose (tree_there (suc f) f h)

  pub ruled_wider : (rules : List Rule) → EachRuled formulas rules → EachRuled (formulas ++ φ ∷ []) rules
  ruled_wider rules ruled r h =
      let o = ruled r h in (
        (omega (arith, longer, o.0.0), omega (arith, longer, o.0.1)),
        loose_there _ o.0.0 ∙ o.1,
        loose_there _ o.0.1 ∙ o.2,
      )

-- no formulas and no rules
pub none_orderly : OrderlyTable []
none_orderly f h = absurd (omega arith)

pub none_ruled : (formulas : List Formula) → EachRuled formulas []
none_ruled formulas r h = absurd (omega arith)

-- A table's arrays, of which the first n entries count, where another formula and its flag are written.
module _ (array : List Formula) (flags : List Bool) (n : ℕ) (φ : Formula) (flag : Bool) (long : n < length array) (wide : n < length flags) (orderly : OrderlyTable (take n array)) where
  first : length (take n array) ≡ n
  first = length-take-le n array (omega arith)

  more : take (n + 1) (set array n φ) ≡ take n array ++ φ ∷ []
  more = take_more_set array n φ long

  pub array_orderly : Orderly n φ → OrderlyTable (take (n + 1) (set array n φ))
  array_orderly new = rw more (orderly_more (take n array) orderly φ (rw first new))

  pub array_ruled : (rules : List Rule) → EachRuled (take n array) rules → EachRuled (take (n + 1) (set array n φ)) rules
  array_ruled rules ruled = rw more (ruled_wider (take n array) orderly φ rules ruled)

  at : get_or (take n array ++ φ ∷ []) n True ≡ φ
  at = subst (λ k. get_or (take n array ++ φ ∷ []) k True ≡ φ) first (get_or-append_seam (take n array) φ [] True)

  flag_below : (k : ℕ) → k < n → get_or (set flags n flag) k false ≡ get_or flags k false
  flag_below k h = let ne : k ≢ n = omega arith in get_or-set_other flags n k flag false ne

  pub array_flagged : Orderly n φ → flag ≡ loose_by φ (λ g. get_or (take n flags) g false) → Flagged (take n array) flags n
      → Flagged (take (n + 1) (set array n φ)) (set flags n flag) (n + 1)
  array_flagged new is so_far =
      let long' = length-append (take n array) (φ ∷ []) in
      let here : get_or (set flags n flag) n false ≡ loose_by φ (λ g. get_or (set flags n flag) g false) =
      get_or-set_same flags n flag false wide ∙ is
      ∙ loose_same φ (λ g. get_or (take n flags) g false) (λ g. get_or (set flags n flag) g false)
      (each_map φ (λ g. g < n) (λ g. get_or (take n flags) g false ≡ get_or (set flags n flag) g false)
      (λ g w. get_or-take n flags g false w ∙ sym (flag_below g w)) new.1) in
      rw more (
      flagged_more (take n array ++ φ ∷ []) (orderly_more (take n array) orderly φ (rw first new)) (set flags n flag) n (omega (arith, first, long'))
      (here ∙ ap (λ ψ. loose_by ψ (λ g. get_or (set flags n flag) g false)) (sym at))
      (λ f h. flag_below f h ∙ so_far f h ∙ sym (loose_there (take n array) orderly φ f (omega (arith, first))))
      )

-- the formulas and rules of a table are in order, as its type says
pub in_order : (t : Table) → InOrder (formulas_of t.draft) (rules_of t.draft)
in_order t =
    let formulas = length-take t.draft.count t.draft.formulas in
    let rules = length-take t.draft.rule_count t.draft.rules in
    record {
      few = omega (arith, formulas, t.draft.few);
      orderly = t.draft.orderly;
      short = omega (arith, rules, t.draft.some);
      ruled = t.draft.ruled;
    }
