-- Rows that are filled place by place. Assumes nothing.
use Rattle.std.proofs.Common.{◌≡◌, ℕ, zero, suc, ◌+◌, ◌<◌, ◌≤◌, Bool, true, false, cond, ◌&&◌, ◌||◌, List, [], ◌∷◌, length, get_or, set, sym, refl, ◌∙◌, ⊎_elim, add-one, arith, length-set}
use Rattle.std.proofs.lemmas.Bool.{cases_eq, cond-false, le-ltb}
use Rattle.std.specs.Prelude.{nat_lt}
use Rattle.labels.specs.Readings.{Reading, Same, opened, fixed, both, either, seen}
use Rattle.labelling.specs.Rows.{cell, prior, Filled}
use Rattle.labelling.proofs.Cells.{cell_at, cell_past, cell_read, cell_same, cell_other}

module _ {K : Type 0} (reads : K → Reading) where
  pub prior_next : (xs : List K) (p : ℕ) (e : Bool) (c : ℕ) → prior reads xs (p + 1) e c ≡ cell reads xs p e c
  unfolding prior
  prior_next xs p e c = rw add-one

  pub prior_none : (xs : List K) (e : Bool) (c : ℕ) → prior reads xs 0 e c ≡ false
  unfolding prior
  prior_none xs e c = refl

  prior_set : (xs : List K) (t q : ℕ) (v : K) → q ≤ t → (e : Bool) (c : ℕ) → prior reads (set xs t v) q e c ≡ prior reads xs q e c
  unfolding prior
  prior_set xs t zero v h e c = refl
  prior_set xs t (suc q) v h e c = cell_other reads xs t q v (λ (s : q ≡ t). omega arith) e c

  -- a row whose labels read as F says
  pub filled_by : (reach : ℕ) (F : ℕ → Reading) (xs : List K) → ((p : ℕ) (d : K) → p < length xs → Same reach (reads (get_or xs p d)) (F p)) → Filled reads reach F xs (length xs)
  filled_by reach F [] h q e c less lo hi = absurd (omega arith)
  filled_by reach F (x ∷ xs) h q e c less lo hi = cell_at reads (x ∷ xs) q x less e c ∙ h q x less e c lo hi

-- `until`: each label from place p on is that of b, or that of a and of the next place
abbrev pub until_at : {K : Type 0} → (K → Reading) → List K → List K → List K → ℕ → Reading
until_at reads a b own q = either (cell reads b q) (both (cell reads a q) (cell reads own (q + 1)))

abbrev pub UntilFrom : {K : Type 0} → (K → Reading) → (reach : ℕ) → List K → List K → List K → ℕ → Type 0
UntilFrom reads reach a b own p = (q : ℕ) (e : Bool) (c : ℕ) → p ≤ q → q < length own → 0 < c → c ≤ reach → cell reads own q e c ≡ until_at reads a b own q e c

-- `since`: each label before place p is that of b, or that of a and of the place before as it is seen from here
abbrev pub since_at : {K : Type 0} → (K → Reading) → List K → List K → List K → ℕ → Reading
since_at reads a b own q = either (cell reads b q) (both (cell reads a q) (seen (q + 1) (prior reads own q)))

abbrev pub UntilKept : {K : Type 0} → (K → Reading) → (reach : ℕ) → List K → List K → List K → K → ℕ → Type 0
UntilKept reads reach a b own next p = Same reach (reads next) (cell reads own p) × UntilFrom reads reach a b own p

abbrev pub SinceKept : {K : Type 0} → (K → Reading) → (reach : ℕ) → List K → List K → List K → K → ℕ → Type 0
SinceKept reads reach a b own carried p = Same reach (reads carried) (prior reads own p) × Filled reads reach (since_at reads a b own) own p

-- at one point: y, or x and what was carried r, seen from a place that the point is before or not, is the join of what r does not
-- bear on and of what it does
joined : (early e x y r : Bool) → ((y || (x && cond early e false)) || ((x && cond early e true) && r)) ≡ (y || (x && cond early e r))
joined true e x true r = refl
joined true e false false r = refl
joined true true true false r = refl
joined true false true false r = refl
joined false e x true r = refl
joined false e true false r = refl
joined false e false false r = refl

module _ {K : Type 0} (reads : K → Reading) (reach : ℕ) (a b : List K) where
  pub until_start : (own : List K) (next : K) → Same reach (reads next) opened → UntilKept reads reach a b own next (length own)
  until_start own next is = (
    (λ e c lo hi. is e c lo hi ∙ sym (cell_past reads own (length own) e c (omega arith))),
    (λ q e c from within lo hi. absurd (omega arith)),
  )

  -- a turn at place t, after those from p = t + 1 on: x and y stand in a and b, z is both x and next, and v is y or z
  pub until_turn : (own : List K) (p t : ℕ) (next x y z v : K) → p ≡ t + 1 → t < length own → length a ≡ length own → length b ≡ length own
      → x ≡ get_or a t x → y ≡ get_or b t y
      → Same reach (reads z) (both (reads x) (reads next)) → Same reach (reads v) (either (reads y) (reads z))
      → UntilKept reads reach a b own next p → UntilKept reads reach a b (set own t v) v t
  until_turn own p t next x y z v is-p fits long-a long-b in-a in_b is-z is-v inv = (
    (λ e c lo hi. sym (cell_same reads own t v fits e c)),
    (λ q e c from within lo hi.
        ⊎_elim
        (λ here.
        let e1 = cell_same reads own t v fits e c in
        let e2 = is-v e c lo hi in
        let e3 = is-z e c lo hi in
        let e4 = cell_read reads b t y (omega arith) in_b e c in
        let e5 = cell_read reads a t x (omega arith) in-a e c in
        let e6 = inv.0 e c lo hi in
        let e7 = cell_other reads own t (t + 1) v (λ (s : t + 1 ≡ t). omega arith) e c in
        cc)
        (λ later.
        let e1 = cell_other reads own t q v later e c in
        let e2 = cell_other reads own t (q + 1) v (λ (s : q + 1 ≡ t). omega arith) e c in
        let e3 = inv.1 q e c (omega arith) (omega (arith, length-set own t v)) lo hi in
        cc)
        (cases_eq q t)),
  )

  pub since_start : (own : List K) (carried : K) → Same reach (reads carried) (fixed 1 false) → SinceKept reads reach a b own carried 0
  since_start own carried is = (
    (λ e c lo hi. is e c lo hi ∙ cond-false _ _ _ (le-ltb c 1 (omega arith)) ∙ sym (prior_none reads own e c)),
    (λ q e c less lo hi. absurd (omega arith)),
  )

  -- a turn at place t: w is what was carried as it is seen from here, z both x and w, and v is y or z
  pub since_turn : (own : List K) (t : ℕ) (carried w x y z v : K) → t < length own → length a ≡ length own → length b ≡ length own
      → x ≡ get_or a t x → y ≡ get_or b t y
      → Same reach (reads w) (seen (t + 1) (reads carried)) → Same reach (reads z) (both (reads x) (reads w)) → Same reach (reads v) (either (reads y) (reads z))
      → SinceKept reads reach a b own carried t → SinceKept reads reach a b (set own t v) v (t + 1)
  since_turn own t carried w x y z v fits long-a long-b in-a in_b is-w is-z is-v inv = (
    (λ e c lo hi. sym (prior_next reads (set own t v) t e c ∙ cell_same reads own t v fits e c)),
    (λ q e c below lo hi.
        ⊎_elim
        (λ here.
        let e1 = cell_same reads own t v fits e c in
        let e2 = is-v e c lo hi in
        let e3 = is-z e c lo hi in
        let e4 = is-w e c lo hi in
        let e5 = cell_read reads b t y (omega arith) in_b e c in
        let e6 = cell_read reads a t x (omega arith) in-a e c in
        let e7 = inv.0 e c lo hi in
        let e8 = prior_set reads own t t v (omega arith) e c in
        cc)
        (λ other.
        let e1 = cell_other reads own t q v other e c in
        let e2 = prior_set reads own t q v (omega arith) e c in
        let e3 = inv.1 q e c (omega arith) lo hi in
        cc)
        (cases_eq q t)),
  )

  -- the same of labels that are seen from here on before they meet what was carried: u is true from here and w false, k both x
  -- and u, m both x and w, n y or m, z both k and carried, and v is n or z
  pub since_split : (own : List K) (t : ℕ) (carried u w x y k m n z v : K) → t < length own → length a ≡ length own → length b ≡ length own
      → x ≡ get_or a t x → y ≡ get_or b t y
      → Same reach (reads u) (fixed (t + 1) true) → Same reach (reads w) (fixed (t + 1) false)
      → Same reach (reads k) (both (reads x) (reads u)) → Same reach (reads m) (both (reads x) (reads w)) → Same reach (reads n) (either (reads y) (reads m))
      → Same reach (reads z) (both (reads k) (reads carried)) → Same reach (reads v) (either (reads n) (reads z))
      → SinceKept reads reach a b own carried t → SinceKept reads reach a b (set own t v) v (t + 1)
  since_split own t carried u w x y k m n z v fits long-a long-b in-a in_b is-u is-w is-k is-m is-n is-z is-v inv = (
    (λ e c lo hi. sym (prior_next reads (set own t v) t e c ∙ cell_same reads own t v fits e c)),
    (λ q e c below lo hi.
        ⊎_elim
        (λ here.
        let e1 = cell_same reads own t v fits e c in
        let e2 = is-v e c lo hi in
        let e3 = is-n e c lo hi in
        let e4 = is-m e c lo hi in
        let e5 = is-w e c lo hi in
        let e6 = is-z e c lo hi in
        let e7 = is-k e c lo hi in
        let e8 = is-u e c lo hi in
        let e9 = joined (nat_lt c (t + 1)) e (reads x e c) (reads y e c) (reads carried e c) in
        let f1 = cell_read reads b t y (omega arith) in_b e c in
        let f2 = cell_read reads a t x (omega arith) in-a e c in
        let f3 = inv.0 e c lo hi in
        let f4 = prior_set reads own t t v (omega arith) e c in
        cc)
        (λ other.
        let e1 = cell_other reads own t q v other e c in
        let e2 = prior_set reads own t q v (omega arith) e c in
        let e3 = inv.1 q e c (omega arith) lo hi in
        cc)
        (cases_eq q t)),
  )
