-- Labels that agree where the rules read them give the same standings, tallies and notices. Assumes nothing.
use Rattle.std.proofs.Common.{◌≡◌, ℕ, zero, suc, ◌+◌, ◌<◌, ◌≤◌, Bool, cond, List, [], ◌∷◌, ◌++◌, length, get_or, refl, ap, ap₂, arith}
use Rattle.logic.specs.declared.types.Rule.{Rule}
use Rattle.logic.specs.Tables.{no_rule}
use Rattle.expectations.specs.declared.types.Tally.{Tally}
use Rattle.expectations.specs.Expectations.{Labels, raises, true_from, standing, count, tallied, is_raised, is_pending, is_fulfilled, is_violated, of_state, from_state, from_rule}

count_like : (p q : ℕ → Bool) (n : ℕ) → ((s : ℕ) → 1 ≤ s → s ≤ n → p s ≡ q s) → count p n ≡ count q n
count_like p q zero h = refl
count_like p q (suc n) h = ap₂ ◌+◌ (count_like p q n (λ s a b. h s a (omega arith))) (ap (λ b. cond b 1 0) (h (suc n) (omega arith) (omega arith)))

tally_like : (a b c d a' b' c' d' : ℕ) → a ≡ a' → b ≡ b' → c ≡ c' → d ≡ d' → ◌≡◌ {A = Tally} (record { raised = a; pending = b; fulfilled = c; violated = d }) (record { raised = a'; pending = b'; fulfilled = c'; violated = d' })
tally_like a b c d a' b' c' d' p q r s = rw (p, q, r, s)

module _ (lab lab' : Labels) (Known : ℕ → Type 0) (n : ℕ) (h : (f i : ℕ) → Known f → 1 ≤ i → i ≤ n → lab f i ≡ lab' f i) where
  abbrev Within : Rule → Type 0
  Within r = Known r.condition × Known r.content

  raises_like : (r : Rule) (s : ℕ) → Within r → 1 ≤ s → s ≤ n → raises lab r s ≡ raises lab' r s
  raises_like r s w a b = ap (λ z. true_from z s) (h r.condition s w.0 a b)

  standing_like : (r : Rule) (s c : ℕ) → Within r → 1 ≤ s → s ≤ n → standing lab r s c ≡ standing lab' r s c
  standing_like r s c w a b =
      let e = raises_like r s w a b in
      let f = h r.content s w.1 a b in
      rw (e, f)

  pub tallied_like : (r : Rule) (c m : ℕ) → Within r → m ≤ n → tallied lab r c m ≡ tallied lab' r c m
  tallied_like r c m w l =
      tally_like _ _ _ _ _ _ _ _
      (count_like (λ s. is_raised (standing lab r s c)) (λ s. is_raised (standing lab' r s c)) m (λ s a b. ap is_raised (standing_like r s c w a (omega arith))))
      (count_like (λ s. is_pending (standing lab r s c)) (λ s. is_pending (standing lab' r s c)) m (λ s a b. ap is_pending (standing_like r s c w a (omega arith))))
      (count_like (λ s. is_fulfilled (standing lab r s c)) (λ s. is_fulfilled (standing lab' r s c)) m (λ s a b. ap is_fulfilled (standing_like r s c w a (omega arith))))
      (count_like (λ s. is_violated (standing lab r s c)) (λ s. is_violated (standing lab' r s c)) m (λ s a b. ap is_violated (standing_like r s c w a (omega arith))))

  of_state_like : (c k : ℕ) (r : Rule) (s : ℕ) → Within r → 1 ≤ s → s ≤ n → of_state lab c k r s ≡ of_state lab' c k r s
  of_state_like c k r s w a b =
      let e = raises_like r s w a b in
      let f = h r.content s w.1 a b in
      rw (e, f)

  from_state_like : (c k : ℕ) (r : Rule) (m s : ℕ) → Within r → 1 ≤ s → s + m ≤ suc n → from_state lab c k r m s ≡ from_state lab' c k r m s
  from_state_like c k r zero s w a b = refl
  from_state_like c k r (suc m) s w a b = ap₂ ◌++◌ (of_state_like c k r s w a (omega arith)) (from_state_like c k r m (suc s) w (omega arith) (omega arith))

  pub notices_like : (c k : ℕ) (rs : List Rule) → ((j : ℕ) → j < length rs → Within (get_or rs j no_rule)) → c ≤ n → from_rule lab c k rs ≡ from_rule lab' c k rs
  notices_like c k [] w l = refl
  notices_like c k (r ∷ rs) w l =
      ap₂ ◌++◌ (from_state_like c k r c 1 (w 0 (omega arith)) (omega arith) (omega arith)) (notices_like c (suc k) rs (λ j b. w (suc j) (omega arith)) l)
