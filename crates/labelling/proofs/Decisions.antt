-- Rows whose labels decide something at each state. Assumes nothing.
use Rattle.std.proofs.Common.{◌≡◌, ℕ, ◌+◌, ◌-◌, ◌<◌, ◌≤◌, min, Bool, List, length, set, Decides, sym, ap, ◌∙◌, subst, ⊎_elim, arith}
use Rattle.std.proofs.lemmas.Bool.{cases_eq, cases_lt, lt-ltb, le-ltb, cond-true, cond-false}
use Rattle.std.proofs.lemmas.Bool.Decides.{Decides-at, Decides-like}
use Rattle.labels.specs.Readings.{Reading, fixed}
use Rattle.logic.specs.Logic.{Kept}
use Rattle.logic.proofs.Keeps.{kept_in, kept_out, kept_past}
use Rattle.labelling.specs.Rows.{cell, at}
use Rattle.labelling.proofs.Cells.{cell_same, cell_other}

-- the labels of the first m states decide G
abbrev pub DecidedTo : {K : Type 0} → (K → Reading) → (reach : ℕ) → (ℕ → Bool → ℕ → Type 0) → List K → (m : ℕ) → Type 0
DecidedTo reads reach G xs m = (i : ℕ) (e : Bool) (c : ℕ) → 0 < i → i ≤ m → 0 < c → c ≤ reach → Decides (at reads xs i e c) (G i e c)

module _ {K : Type 0} (reads : K → Reading) (reach : ℕ) (G : ℕ → Bool → ℕ → Type 0) where
  pub decided_more : (xs : List K) (t : ℕ) (v : K) → t < length xs → ((e : Bool) (c : ℕ) → 0 < c → c ≤ reach → Decides (reads v e c) (G (t + 1) e c))
      → DecidedTo reads reach G xs t → DecidedTo reads reach G (set xs t v) (t + 1)
  decided_more xs t v fits is-v inv i e c pos le lo hi =
      ⊎_elim
      (λ (s : i ≡ t + 1).
      subst (λ j. Decides (at reads (set xs t v) j e c) (G j e c)) (sym s)
      (Decides-at _ _ (ap (λ q. cell reads (set xs t v) q e c) (omega arith) ∙ cell_same reads xs t v fits e c) (is-v e c lo hi)))
      (λ s. Decides-at _ _ (cell_other reads xs t (i - 1) v (λ (z : i - 1 ≡ t). omega arith) e c) (inv i e c pos (omega arith) lo hi))
      (cases_eq i (t + 1))

-- a label that is decided from state i's own point on
pub fixed_decides : (n i : ℕ) (b e : Bool) (c : ℕ) (X : Type 0) → i ≤ n → Decides b X → Decides (fixed i b e c) (Kept e (min c n) i X)
fixed_decides n i b e c X le d =
    ⊎_elim
    (λ (w : c < i). Decides-at _ _ (cond-true _ _ _ (lt-ltb c i w)) (kept_past e (min c n) i X (omega arith)))
    (λ (w : i ≤ c). let k : i ≤ min c n = omega arith in Decides-at _ _ (cond-false _ _ _ (le-ltb c i w)) (Decides-like b (kept_in e (min c n) i k) (kept_out e (min c n) i k) d))
    (cases_lt c i)
