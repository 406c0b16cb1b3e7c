-- Two texts that begin alike. Assumes nothing.
use Rattle.std.proofs.Common.{◌≡◌, ℕ, suc, ◌+◌, ◌≤◌, Bool, true, false, cond, ◌&&◌, eqb, List, [], ◌∷◌, ◌++◌, length, take, Some, refl, sym, ap, ◌∙◌, arith, rules}
use lib.Pointwise.{pointwise}
use Rattle.std.specs.List.{zip, count_by, prefix_len}
use Rattle.std.proofs.lemmas.Bool.{eqb-true, eqb-false}
use Rattle.std.proofs.lemmas.List.Sums.{sum_by-cons}
use Rattle.example_logs.specs.Comparing.{line_ends, Apart, Compared}

abbrev pub alike : List ℕ → List ℕ → ℕ
alike a b = prefix_len (λ p. eqb p.0 p.1) (zip a b)

one_more : (t : Bool) (k n : ℕ) → k ≤ n → cond t (1 + k) 0 ≤ suc n
one_more true k n h = omega (arith, h)
one_more false k n h = omega arith

pub alike_within : (a b : List ℕ) → alike a b ≤ length a
alike_within [] b = omega arith
alike_within (x ∷ a) [] = omega arith
alike_within (x ∷ a) (y ∷ b) = one_more (eqb x y) (alike a b) (length a) (alike_within a b)

ends_counted : (a : List ℕ) → count_by (λ x. eqb x 10) a ≡ line_ends a
ends_counted [] = refl
ends_counted (x ∷ a) = sum_by-cons (λ x. cond (eqb x 10) 1 0) x a ∙ ap (λ n. cond (eqb x 10) 1 0 + n) (ends_counted a)

-- texts that differ part after k bytes that are alike
abbrev PartAt : (a b : List ℕ) → ℕ → Type 0
PartAt a b k = (p : List ℕ) × (q : List ℕ) × (a ≡ take k a ++ p) × (b ≡ take k a ++ q) × Apart p q

part_later : (x y : ℕ) (a b : List ℕ) (k m : ℕ) (t : Bool) → eqb x y ≡ t → m ≡ cond t (1 + k) 0 → (t && pointwise eqb a b) ≡ false
    → (pointwise eqb a b ≡ false → PartAt a b k) → PartAt (x ∷ a) (y ∷ b) m
part_later x y a b k m true s n e later =
    let r = later e in
    let n' : m ≡ suc k = omega (arith, n) in
    rw n' (r.0, r.1, ap (λ u. x ∷ u) r.2, ap (λ u. y ∷ u) r.3 ∙ ap (λ u. u ∷ (take k a ++ r.1)) (sym (eqb-true x y s)), r.4)
part_later x y a b k m false s n e later = rw n (x ∷ a, y ∷ b, refl, refl, eqb-false x y s)

parts : (a b : List ℕ) → pointwise eqb a b ≡ false → PartAt a b (alike a b)
parts [] [] e = absurd (search (rules, e))
parts [] (y ∷ b) e = ([], y ∷ b, refl, refl, tt)
parts (x ∷ a) [] e = (x ∷ a, [], refl, refl, tt)
parts (x ∷ a) (y ∷ b) e = part_later x y a b (alike a b) (alike (x ∷ a) (y ∷ b)) (eqb x y) refl refl e (parts a b)

pub parted : (a b : List ℕ) → pointwise eqb a b ≡ false → Compared a b (Some (count_by (λ x. eqb x 10) (take (alike a b) a) + 1))
parted a b e = let r = parts a b e in (take (alike a b) a, r.0, r.1, r.2, r.3, r.4, omega (arith, ends_counted (take (alike a b) a)))
