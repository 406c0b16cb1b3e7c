-- The readings of a row's cells. Assumes nothing.
use Rattle.std.proofs.Common.{◌≡◌, ℕ, zero, suc, ◌<◌, ◌≤◌, Bool, ◌≢◌, List, [], ◌∷◌, length, get_or, set, sym, refl, ap, ◌∙◌, arith}
use Rattle.labels.specs.Readings.{Reading}
use Rattle.labelling.specs.Rows.{cell}

module _ {K : Type 0} (reads : K → Reading) where
  pub cell_past : (xs : List K) (p : ℕ) (e : Bool) (c : ℕ) → length xs ≤ p → cell reads xs p e c ≡ e
  unfolding cell
  cell_past [] p e c h = refl
  cell_past (x ∷ xs) zero e c h = absurd (omega arith)
  cell_past (x ∷ xs) (suc p) e c h = cell_past xs p e c (omega arith)

  pub cell_at : (xs : List K) (p : ℕ) (d : K) → p < length xs → (e : Bool) (c : ℕ) → cell reads xs p e c ≡ reads (get_or xs p d) e c
  unfolding cell
  cell_at [] p d h e c = absurd (omega arith)
  cell_at (y ∷ xs) zero d h e c = refl
  cell_at (y ∷ xs) (suc p) d h e c = cell_at xs p d (omega arith) e c

  pub cell_read : (xs : List K) (p : ℕ) (x : K) → p < length xs → x ≡ get_or xs p x → (e : Bool) (c : ℕ) → cell reads xs p e c ≡ reads x e c
  cell_read xs p x h is e c = cell_at xs p x h e c ∙ ap (λ z. reads z e c) (sym is)

  pub cell_same : (xs : List K) (p : ℕ) (x : K) → p < length xs → (e : Bool) (c : ℕ) → cell reads (set xs p x) p e c ≡ reads x e c
  unfolding cell
  cell_same [] p x h e c = absurd (omega arith)
  cell_same (y ∷ xs) zero x h e c = refl
  cell_same (y ∷ xs) (suc p) x h e c = cell_same xs p x (omega arith) e c

  pub cell_other : (xs : List K) (p q : ℕ) (x : K) → q ≢ p → (e : Bool) (c : ℕ) → cell reads (set xs p x) q e c ≡ cell reads xs q e c
  unfolding cell
  cell_other [] p q x h e c = refl
  cell_other (y ∷ xs) zero zero x h e c = absurd (h refl)
  cell_other (y ∷ xs) zero (suc q) x h e c = refl
  cell_other (y ∷ xs) (suc p) zero x h e c = refl
  cell_other (y ∷ xs) (suc p) (suc q) x h e c = cell_other xs p q x (λ s. h (ap suc s)) e c
