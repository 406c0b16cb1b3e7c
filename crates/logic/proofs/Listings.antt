-- The parts of a formula, one by one. Assumes nothing.
use Rattle.std.proofs.Common.{◌≡◌, ℕ, zero, suc, ◌<◌, Bool, ◌||◌, List, [], ◌∷◌, length, Option, None, Some as Given, Decides, MatchBool, true, false, sym, refl, ◌∙◌, ap, subst, arith}
use Rattle.std.proofs.Math.Bool.{or-false}
use Rattle.std.proofs.lemmas.Bool.{false≢true}
use Rattle.std.proofs.lemmas.Iterator.{YieldsList}
use Rattle.std.proofs.lemmas.Iterator.Adapters.{YieldsList-from_flatten, YieldsList-from_once}
use Rattle.std.proofs.lemmas.Iterator.Consumers.{YieldsList-from_shown, YieldsList-turn, YieldsList-end}
use Rattle.std.proofs.lemmas.List.{map-id}
use Rattle.std.specs.Iterator.{Yields}
use Rattle.std.specs.Array.Iter.{array_into_iter_items, array_steps}
use Rattle.std.specs.Iterator.Adapters.{flatten_source, flatten_front, flatten_back, flatten_done, flatten_steps, once_item, once_steps}
use Rattle.std.specs.List.{All, AllWithin, HoldsAt, flat_map, list_any}
use Rattle.std.specs.Option.{option_to_list}
use Rattle.std.specs.declared.array.IntoIter.{IntoIter}
use Rattle.std.specs.declared.iter.Flatten.{Flatten}
use Rattle.std.specs.declared.iter.Once.{Once}
use Rattle.logic.specs.declared.types.Formula.{Formula}
use Rattle.logic.specs.declared.types.Formula.TheVariants.{True, Signal, Nominal, Not, And, Or, Next, Previous, Until, Since, At, Variable, Reference, Bind, Some}
use Rattle.logic.specs.Tables.{EachPart, loose_by, parts_of}

module _ (P : ℕ → Type 0) where
  none : All P []
  none k d less = absurd (omega arith)

  one : (f : ℕ) → P f → All P (f ∷ [])
  one f p zero d less = p
  one f p (suc k) d less = absurd (omega arith)

  two : (f g : ℕ) → P f × P g → All P (f ∷ g ∷ [])
  two f g p zero d less = p.0
  two f g p (suc zero) d less = p.1
  two f g p (suc (suc k)) d less = absurd (omega arith)

  -- P of each part is P of each number in the list
  pub each_listed : (φ : Formula) → EachPart P φ → All P (parts_of φ)
  each_listed True e = none
  each_listed (Signal b) e = none
  each_listed (Nominal a) e = none
  each_listed (Not f) e = one f e
  each_listed (And f g) e = two f g e
  each_listed (Or f g) e = two f g e
  each_listed (Next f) e = one f e
  each_listed (Previous f) e = one f e
  each_listed (Until f g) e = two f g e
  each_listed (Since f g) e = two f g e
  each_listed (At a f) e = one f e
  each_listed Variable e = none
  each_listed (Reference a) e = none
  each_listed (Bind f) e = one f e
  each_listed (Some a f) e = one f e

  pub listed_each : (φ : Formula) → All P (parts_of φ) → EachPart P φ
  listed_each True h = tt
  listed_each (Signal b) h = tt
  listed_each (Nominal a) h = tt
  listed_each (Not f) h = h 0 f (omega arith)
  listed_each (And f g) h = (h 0 f (omega arith), h 1 f (omega arith))
  listed_each (Or f g) h = (h 0 f (omega arith), h 1 f (omega arith))
  listed_each (Next f) h = h 0 f (omega arith)
  listed_each (Previous f) h = h 0 f (omega arith)
  listed_each (Until f g) h = (h 0 f (omega arith), h 1 f (omega arith))
  listed_each (Since f g) h = (h 0 f (omega arith), h 1 f (omega arith))
  listed_each (At a f) h = h 0 f (omega arith)
  listed_each Variable h = tt
  listed_each (Reference a) h = tt
  listed_each (Bind f) h = h 0 f (omega arith)
  listed_each (Some a f) h = h 0 f (omega arith)

-- a formula that neither speaks of the variable nor binds it is loose if one of its parts is
pub loose_listed : (φ : Formula) (part : ℕ → Bool) → (φ ≡ Variable → ⊥) → ((a : ℕ) → φ ≡ Reference a → ⊥) → ((f : ℕ) → φ ≡ Bind f → ⊥) → ((a f : ℕ) → φ ≡ Some a f → ⊥)
    → list_any part (parts_of φ) ≡ loose_by φ part
loose_listed True part h1 h2 h3 h4 = refl
loose_listed (Signal b) part h1 h2 h3 h4 = refl
loose_listed (Nominal a) part h1 h2 h3 h4 = refl
loose_listed (Not f) part h1 h2 h3 h4 = or-false (part f)
loose_listed (And f g) part h1 h2 h3 h4 = ap (λ b. part f || b) (or-false (part g))
loose_listed (Or f g) part h1 h2 h3 h4 = ap (λ b. part f || b) (or-false (part g))
loose_listed (Next f) part h1 h2 h3 h4 = or-false (part f)
loose_listed (Previous f) part h1 h2 h3 h4 = or-false (part f)
loose_listed (Until f g) part h1 h2 h3 h4 = ap (λ b. part f || b) (or-false (part g))
loose_listed (Since f g) part h1 h2 h3 h4 = ap (λ b. part f || b) (or-false (part g))
loose_listed (At a f) part h1 h2 h3 h4 = or-false (part f)
loose_listed Variable part h1 h2 h3 h4 = absurd (h1 refl)
loose_listed (Reference a) part h1 h2 h3 h4 = absurd (h2 a refl)
loose_listed (Bind f) part h1 h2 h3 h4 = absurd (h3 f refl)
loose_listed (Some a f) part h1 h2 h3 h4 = absurd (h4 a f refl)

-- `parts().into_iter().flatten()` gives the parts
pub parts_yielded : (φ : Formula) (becomes : Option ℕ → Once ℕ → Type 0) → ((o : Option ℕ) (j : Once ℕ) → becomes o j → once_item j ≡ o)
    → {s : Flatten (IntoIter (Option ℕ) 2) (Once ℕ)} (xs : List (Option ℕ)) → flat_map option_to_list xs ≡ parts_of φ → array_into_iter_items (flatten_source s) ≡ xs
    → flatten_front s ≡ None → flatten_back s ≡ None → flatten_done s ≡ false → YieldsList (flatten_steps array_steps becomes once_steps) (λ x. x) s (parts_of φ)
parts_yielded φ becomes is {s} xs listed e f b d =
    subst (YieldsList (flatten_steps array_steps becomes once_steps) (λ x. x) s) listed
    (YieldsList-from_flatten becomes once_steps (λ x. x) option_to_list (λ o j h. YieldsList-from_once o (is o j h))
    (subst (YieldsList array_steps (λ x. x) (flatten_source s)) e (YieldsList-from_shown array_steps (λ x. x) array_into_iter_items (λ t u h. h.0) (λ t x u h. h) (flatten_source s))) f b d)

-- what `all` over the parts says
pub all_listed : (P N : ℕ → Type 0) → ((k : ℕ) → P k → N k → ⊥) → (φ : Formula) (r : Bool)
    → MatchBool r (AllWithin P (parts_of φ) 0 (length (parts_of φ))) ((k : ℕ) × (k < length (parts_of φ)) × HoldsAt N (parts_of φ) k) → Decides r (EachPart P φ)
all_listed P N apart φ true h = ((λ _. listed_each P φ (λ k d less. h k d (omega arith) less)), (λ _. refl))
all_listed P N apart φ false h = (
  (λ e. absurd (false≢true e)),
  (λ e. absurd (apart _ (each_listed P φ e h.0 0 h.1) (h.2 0))),
)

-- a loop over the parts is given each of them, and ends when it has been given all
module _ (P : ℕ → Type 0) (φ : Formula) {S : Type 0} {steps : S → Option ℕ → S → Type 0} {s : S} (yields : YieldsList steps (λ x. x) s (parts_of φ))
    (xs : List ℕ) (t : S) (so_far : Yields steps s xs t) (r : Option ℕ) (u : S) (step : steps t r u) where
  pub part_given : (x : ℕ) → r ≡ Given x → EachPart P φ → P x
  part_given x is e =
      let turn = YieldsList-turn yields xs t so_far r u x is step in
      subst P (sym turn.1) (each_listed P φ e (length xs) x turn.0)

  pub parts_given : r ≡ None → All P xs → EachPart P φ
  parts_given is h = listed_each P φ (subst (All P) (sym (map-id xs) ∙ (YieldsList-end yields xs t so_far r u is step).0) h)
