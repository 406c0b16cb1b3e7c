-- Lists by their places.
use Rattle.std.proofs.Common.{◌≡◌, ℕ, zero, suc, ◌<◌, List, [], ◌∷◌, ◌++◌, Some, None, Option, subst, arith}
use Rattle.std.specs.List.{AllByRecursion as All, slice_get}
use Rattle.std.proofs.ByRecursion.{All-append}

module _ {X : Type 0} where
  some_is : (x y : X) → ◌≡◌ {A = Option X} (Some x) (Some y) → x ≡ y
  some_is x y e = cc

  no_none : (x : X) → ◌≡◌ {A = Option X} None (Some x) → ⊥
  no_none x e = let z : ◌≡◌ {A = ℕ} 0 1 = cc in omega arith

  pub all_nth : (P : X → Type 0) (xs : List X) (k : ℕ) (y : X) → All P xs → slice_get xs k ≡ Some y → P y
  all_nth P [] k y h e = absurd (no_none y e)
  all_nth P (x ∷ xs) zero y h e = subst P (some_is x y e) h.0
  all_nth P (x ∷ xs) (suc k) y h e = all_nth P xs k y h.1 e

  -- x stands somewhere in xs
  abbrev pub Stands : List X → X → Type 0
  Stands xs x = (k : ℕ) × (slice_get xs k ≡ Some x)

  pub stands_left : (xs ys : List X) (x : X) → Stands xs x → Stands (xs ++ ys) x
  stands_left [] ys x h = absurd (no_none x h.1)
  stands_left (y ∷ xs) ys x (zero, e) = (zero, e)
  stands_left (y ∷ xs) ys x (suc k, e) = let h = stands_left xs ys x (k, e) in (suc h.0, h.1)

  pub stands_right : (xs ys : List X) (x : X) → Stands ys x → Stands (xs ++ ys) x
  stands_right [] ys x h = h
  stands_right (y ∷ xs) ys x h = let k = stands_right xs ys x h in (suc k.0, k.1)

  -- each element stands in relation R to each later one
  module _ (R : X → X → Type 0) where
    abbrev pub Sorted : List X → Type 0
    Sorted [] = Unit {0}
    Sorted (x ∷ xs) = All (R x) xs × Sorted xs

    pub sorted-++ : (xs ys : List X) → Sorted xs → Sorted ys → All (λ x. All (R x) ys) xs → Sorted (xs ++ ys)
    sorted-++ [] ys h k b = k
    sorted-++ (x ∷ xs) ys h k b = (All-append (R x) xs ys h.0 b.0, sorted-++ xs ys h.1 k b.1)

    pub sorted_nth : (xs : List X) (j k : ℕ) (x y : X) → Sorted xs → j < k → slice_get xs j ≡ Some x → slice_get xs k ≡ Some y → R x y
    sorted_nth [] j k x y h l e f = absurd (no_none x e)
    sorted_nth (z ∷ xs) zero zero x y h l e f = absurd (omega arith)
    sorted_nth (z ∷ xs) zero (suc k) x y h l e f = subst (λ w. R w y) (some_is z x e) (all_nth (R z) xs k y h.0 f)
    sorted_nth (z ∷ xs) (suc j) zero x y h l e f = absurd (omega arith)
    sorted_nth (z ∷ xs) (suc j) (suc k) x y h l e f = sorted_nth xs j k x y h.1 (omega arith) e f
