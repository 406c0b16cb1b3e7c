-- The formulas of a table, and their trees. Assumes nothing.
use Rattle.std.proofs.Common.{◌≡◌, ℕ, zero, suc, ◌+◌, ◌<◌, Bool, true, false, ◌||◌, List, length, get_or, sym, refl, ap, ◌∙◌, ap₂, arith, below_more}
use Rattle.std.proofs.lemmas.Bool.{true≢false}
use Rattle.logic.specs.Logic.{Tree, not', and', or', next, previous, until, since, at', bind, some', is_loose}
use Rattle.logic.specs.declared.types.Formula.{Formula}
use Rattle.logic.specs.declared.types.Formula.TheVariants.{True, Signal, Nominal, Not, And, Or, Next, Previous, Until, Since, At, Variable, Reference, Bind, Some}
use Rattle.logic.specs.Tables.{node, EachPart, loose_by, binds, tree_to, tree, loose, OrderlyTable, Flagged, TreesUnfold}
use Rattle.logic.proofs.Looses.{neither}

pub node_same : (φ : Formula) (P Q : ℕ → Tree) → EachPart (λ k. P k ≡ Q k) φ → node φ P ≡ node φ Q
node_same True P Q e = refl
node_same (Signal k) P Q e = refl
node_same (Nominal k) P Q e = refl
node_same (Not f) P Q e = ap not' e
node_same (And f g) P Q e = ap₂ and' e.0 e.1
node_same (Or f g) P Q e = ap₂ or' e.0 e.1
node_same (Previous f) P Q e = ap previous e
node_same (Next f) P Q e = ap next e
node_same (Until f g) P Q e = ap₂ until e.0 e.1
node_same (Since f g) P Q e = ap₂ since e.0 e.1
node_same Variable P Q e = refl
node_same (Reference a) P Q e = refl
node_same (Bind f) P Q e = ap bind e
node_same (At a f) P Q e = ap (at' a) e
node_same (Some a f) P Q e = ap (some' a) e

pub each_map : (φ : Formula) (P Q : ℕ → Type 0) → ((k : ℕ) → P k → Q k) → EachPart P φ → EachPart Q φ
each_map True P Q m e = tt
each_map (Signal k) P Q m e = tt
each_map (Nominal k) P Q m e = tt
each_map (Not f) P Q m e = m f e
each_map (And f g) P Q m e = (m f e.0, m g e.1)
each_map (Or f g) P Q m e = (m f e.0, m g e.1)
each_map (Previous f) P Q m e = m f e
each_map (Next f) P Q m e = m f e
each_map (Until f g) P Q m e = (m f e.0, m g e.1)
each_map (Since f g) P Q m e = (m f e.0, m g e.1)
each_map Variable P Q m e = tt
each_map (Reference a) P Q m e = tt
each_map (Bind f) P Q m e = m f e
each_map (At a f) P Q m e = m f e
each_map (Some a f) P Q m e = m f e

pub each_both : (φ : Formula) (P Q R : ℕ → Type 0) → ((k : ℕ) → P k → Q k → R k) → EachPart P φ → EachPart Q φ → EachPart R φ
each_both True P Q R m d e = tt
each_both (Signal k) P Q R m d e = tt
each_both (Nominal k) P Q R m d e = tt
each_both (Not f) P Q R m d e = m f d e
each_both (And f g) P Q R m d e = (m f d.0 e.0, m g d.1 e.1)
each_both (Or f g) P Q R m d e = (m f d.0 e.0, m g d.1 e.1)
each_both (Previous f) P Q R m d e = m f d e
each_both (Next f) P Q R m d e = m f d e
each_both (Until f g) P Q R m d e = (m f d.0 e.0, m g d.1 e.1)
each_both (Since f g) P Q R m d e = (m f d.0 e.0, m g d.1 e.1)
each_both Variable P Q R m d e = tt
each_both (Reference a) P Q R m d e = tt
each_both (Bind f) P Q R m d e = m f d e
each_both (At a f) P Q R m d e = m f d e
each_both (Some a f) P Q R m d e = m f d e

pub node_loose : (φ : Formula) (part : ℕ → Tree) → is_loose (node φ part) ≡ loose_by φ (λ g. is_loose (part g))
node_loose True part = refl
node_loose (Signal k) part = refl
node_loose (Nominal k) part = refl
node_loose (Not f) part = refl
node_loose (And f g) part = refl
node_loose (Or f g) part = refl
node_loose (Previous f) part = refl
node_loose (Next f) part = refl
node_loose (Until f g) part = refl
node_loose (Since f g) part = refl
node_loose Variable part = refl
node_loose (Reference a) part = refl
node_loose (Bind f) part = refl
node_loose (At a f) part = refl
node_loose (Some a f) part = refl

pub loose_same : (φ : Formula) (P Q : ℕ → Bool) → EachPart (λ k. P k ≡ Q k) φ → loose_by φ P ≡ loose_by φ Q
loose_same True P Q e = refl
loose_same (Signal k) P Q e = refl
loose_same (Nominal k) P Q e = refl
loose_same (Not f) P Q e = e
loose_same (And f g) P Q e = ap₂ (λ a b. a || b) e.0 e.1
loose_same (Or f g) P Q e = ap₂ (λ a b. a || b) e.0 e.1
loose_same (Previous f) P Q e = e
loose_same (Next f) P Q e = e
loose_same (Until f g) P Q e = ap₂ (λ a b. a || b) e.0 e.1
loose_same (Since f g) P Q e = ap₂ (λ a b. a || b) e.0 e.1
loose_same Variable P Q e = refl
loose_same (Reference a) P Q e = refl
loose_same (Bind f) P Q e = refl
loose_same (At a f) P Q e = e
loose_same (Some a f) P Q e = refl

-- the parts of a formula that is neither loose nor a binder are not loose
pub closed_parts : (φ : Formula) (part : ℕ → Bool) → binds φ ≡ false → loose_by φ part ≡ false → EachPart (λ g. part g ≡ false) φ
closed_parts True part b h = tt
closed_parts (Signal k) part b h = tt
closed_parts (Nominal k) part b h = tt
closed_parts (Not f) part b h = h
closed_parts (And f g) part b h = neither (part f) (part g) h
closed_parts (Or f g) part b h = neither (part f) (part g) h
closed_parts (Previous f) part b h = h
closed_parts (Next f) part b h = h
closed_parts (Until f g) part b h = neither (part f) (part g) h
closed_parts (Since f g) part b h = neither (part f) (part g) h
closed_parts Variable part b h = tt
closed_parts (Reference a) part b h = tt
closed_parts (Bind f) part b h = absurd (true≢false b)
closed_parts (At a f) part b h = h
closed_parts (Some a f) part b h = absurd (true≢false b)

-- a loose formula is no binder
pub loose_unbound : (φ : Formula) (part : ℕ → Bool) → loose_by φ part ≡ true → binds φ ≡ false
loose_unbound True part h = refl
loose_unbound (Signal k) part h = refl
loose_unbound (Nominal k) part h = refl
loose_unbound (Not f) part h = refl
loose_unbound (And f g) part h = refl
loose_unbound (Or f g) part h = refl
loose_unbound (Previous f) part h = refl
loose_unbound (Next f) part h = refl
loose_unbound (Until f g) part h = refl
loose_unbound (Since f g) part h = refl
loose_unbound Variable part h = refl
loose_unbound (Reference a) part h = refl
loose_unbound (Bind f) part h = absurd (true≢false (sym h))
loose_unbound (At a f) part h = refl
loose_unbound (Some a f) part h = absurd (true≢false (sym h))

module _ (table : List Formula) (orderly : OrderlyTable table) where
  -- enough levels are enough
  depth_same : (m n f : ℕ) → f < length table → f < m → f < n → tree_to m table f ≡ tree_to n table f
  unfolding tree_to
  depth_same zero n f h p q = absurd (omega arith)
  depth_same (suc m) zero f h p q = absurd (omega arith)
  depth_same (suc m) (suc n) f h p q =
      node_same (get_or table f True) (tree_to m table) (tree_to n table)
      (each_map (get_or table f True) (λ k. k < f) (λ k. tree_to m table k ≡ tree_to n table k)
      (λ k w. depth_same m n k (omega arith) (omega arith) (omega arith)) (orderly f h).1)

  pub tree_is : (f : ℕ) → f < length table → tree table f ≡ node (get_or table f True) (tree table)
  unfolding tree tree_to
  tree_is f h =
      node_same (get_or table f True) (tree_to f table) (tree table)
      (each_map (get_or table f True) (λ k. k < f) (λ k. tree_to f table k ≡ tree table k)
      (λ k w. depth_same f (suc k) k (omega arith) w (omega arith)) (orderly f h).1)

  pub loose_is : (f : ℕ) → f < length table → loose table f ≡ loose_by (get_or table f True) (loose table)
  unfolding loose
  loose_is f h = ap is_loose (tree_is f h) ∙ node_loose (get_or table f True) (tree table)

  -- flags that follow the rule of looseness for each formula in turn say which formulas are loose
  pub flagged_more : (flags : List Bool) (f : ℕ) → f < length table → get_or flags f false ≡ loose_by (get_or table f True) (λ g. get_or flags g false)
      → Flagged table flags f → Flagged table flags (f + 1)
  flagged_more flags f h is so_far =
      below_more (λ k. get_or flags k false ≡ loose table k) f so_far
      (is
      ∙ loose_same (get_or table f True) (λ g. get_or flags g false) (loose table)
      (each_map (get_or table f True) (λ k. k < f) (λ k. get_or flags k false ≡ loose table k) so_far (orderly f h).1)
      ∙ sym (loose_is f h))

pub trees_unfold_lem : TreesUnfold
trees_unfold_lem table orderly f h = tree_is table orderly f h
