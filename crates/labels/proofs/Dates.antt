-- What dated numbers tell by their readings.
use Rattle.std.proofs.Common.{◌≡◌, ℕ, ◌-◌, ◌<◌, ◌≤◌, min, Bool, true, false, ℤ, pos, negsuc, ◌+ℤ◌, neg_ℤ, nat_abs, ◌≤ℤ◌, ◌<ℤ◌, sym, refl, ◌∙◌, ⊎_elim, arith}
use lib.Signed.{lt_z, le_z}
use Rattle.std.specs.Int.{int_max, int_min}
use Rattle.std.proofs.lemmas.Int.{ints, clamps, by_lt_z}
use Rattle.std.proofs.lemmas.Bool.{both_ways, cases_lt, lt-ltb, le-ltb, cond-true, cond-false}
use Rattle.labels.specs.Readings.{Reading, Same, DateOf, seen}
use Rattle.labels.specs.Dated.{dated, limited_to}

pub lt_true : (a b : ℤ) → a <ℤ b → lt_z a b ≡ true
lt_true a b h = grind (arith, ints)

le_false : (a b : ℤ) → b <ℤ a → le_z a b ≡ false
le_false a b h = grind (arith, ints)

-- a test with the same answer
lt_same : (a b b' : ℤ) → (a <ℤ b → a <ℤ b') → (a <ℤ b' → a <ℤ b) → lt_z a b ≡ lt_z a b'
lt_same a b b' f g =
    by_lt_z a b
    (λ h. let k : a <ℤ b' = f h in grind (arith, ints))
    (λ h. by_lt_z a b' (λ k. let h' : a <ℤ b = g k in grind (arith, ints)) (λ k. grind (arith, ints)))

le_same : (a b b' : ℤ) → (a ≤ℤ b → a ≤ℤ b') → (a ≤ℤ b' → a ≤ℤ b) → le_z a b ≡ le_z a b'
le_same a b b' f g =
    by_lt_z b a
    (λ h. by_lt_z b' a (λ k. grind (arith, ints)) (λ k. let h' : a ≤ℤ b = g k in grind (arith, ints)))
    (λ h. let k : a ≤ℤ b' = f h in grind (arith, ints))

-- r is z limited by the number of the labels that are true from point i on
module _ (z d r : ℤ) (i c : ℕ) (lo : 0 < c) (hi : c ≤ 256) (date : d ≡ pos (min 256 (257 - i)))
    (is : r ≡ int_max (neg_ℤ d) (int_min z d)) where
  early : (e : Bool) → c < i → dated r e c ≡ e
  early true h = lt_true (pos c) (r +ℤ pos 257) (omega (arith, ints, clamps))
  early false h = le_false (pos 257) (r +ℤ pos c) (omega (arith, ints, clamps))

  late : (e : Bool) → i ≤ c → dated r e c ≡ dated z e c
  late true h =
      lt_same (pos c) (r +ℤ pos 257) (z +ℤ pos 257) (λ k. omega (arith, ints, clamps)) (λ k. omega (arith, ints, clamps))
  late false h =
      le_same (pos 257) (r +ℤ pos c) (z +ℤ pos c) (λ k. omega (arith, ints, clamps)) (λ k. omega (arith, ints, clamps))

  pub dated_seen : (e : Bool) → dated r e c ≡ seen i (dated z) e c
  dated_seen e =
      ⊎_elim
      (λ h. early e h ∙ sym (cond-true _ _ _ (lt-ltb c i h)))
      (λ h. late e h ∙ sym (cond-false _ _ _ (le-ltb c i h)))
      (cases_lt c i)

-- the same, where the reading is known
pub weak_limited : (z r : ℤ) (i c : ℕ) → 0 < c → c ≤ 256 → r ≡ limited_to (pos (min 256 (257 - i))) z
    → lt_z (pos c) (r +ℤ pos 257) ≡ seen i (dated z) true c
weak_limited z r i c lo hi is = dated_seen z (pos (min 256 (257 - i))) r i c lo hi refl is true

pub strong_limited : (z r : ℤ) (i c : ℕ) → 0 < c → c ≤ 256 → r ≡ limited_to (pos (min 256 (257 - i))) z
    → le_z (pos 257) (r +ℤ pos c) ≡ seen i (dated z) false c
strong_limited z r i c lo hi is = dated_seen z (pos (min 256 (257 - i))) r i c lo hi refl is false

-- the strong readings differ at 257 - y, and the weak ones at x + 257
strong_differs : (x y : ℤ) (c : ℕ) → y +ℤ pos c ≡ pos 257 → x <ℤ y → dated x false c ≡ dated y false c → ⊥
strong_differs x y c is h same = grind (arith, ints)

weak_differs : (x y : ℤ) (c : ℕ) → x +ℤ pos 257 ≡ pos c → x <ℤ y → dated x true c ≡ dated y true c → ⊥
weak_differs x y c is h same = grind (arith, ints)

below_differs : (x y : ℤ) → negsuc 255 ≤ℤ x → y ≤ℤ pos 256 → Same 256 (dated x) (dated y) → x <ℤ y → ⊥
below_differs x (pos n) lo hi same h =
    ⊎_elim
    (λ p. strong_differs x (pos n) (257 - n) (omega (arith, ints)) h (same false (257 - n) (omega (arith, ints)) (omega arith)))
    (λ p. weak_differs x (pos n) (257 - nat_abs x) (omega (arith, ints)) h (same true (257 - nat_abs x) (omega (arith, ints)) (omega (arith, ints))))
    (cases_lt 0 n)
below_differs x (negsuc n) lo hi same h =
    weak_differs x (negsuc n) (257 - nat_abs x) (omega (arith, ints)) h (same true (257 - nat_abs x) (omega (arith, ints)) (omega (arith, ints)))

-- A number is fixed by its readings at the points from 1 to 256.
pub number_by_meaning : (x y : ℤ) → negsuc 255 ≤ℤ x → x ≤ℤ pos 256 → negsuc 255 ≤ℤ y → y ≤ℤ pos 256 → Same 256 (dated x) (dated y) → x ≡ y
number_by_meaning x y lo hi lo' hi' same =
    by_lt_z x y
    (λ h. absurd (below_differs x y lo hi' same h))
    (λ h. by_lt_z y x (λ k. absurd (below_differs y x lo' hi (λ e c p q. sym (same e c p q)) k)) (λ k. omega (arith, ints)))

not_earlier : (n : ℕ) (f : Reading) (d e : ℕ) → DateOf n f d → DateOf n f e → d < e → ⊥
not_earlier n f d e p q h =
    ⊎_elim
    (λ z. both_ways (f false d) (q.first d z h) (p.holds z))
    (λ z. both_ways (f false e) (p.never (omega arith) e (omega arith) q.within) (q.holds (omega arith)))
    (cases_lt 0 d)

-- A reading has one date.
pub date_only : (n : ℕ) (f : Reading) (d e : ℕ) → DateOf n f d → DateOf n f e → d ≡ e
date_only n f d e p q =
    ⊎_elim
    (λ h. absurd (not_earlier n f d e p q h))
    (λ h. ⊎_elim (λ k. absurd (not_earlier n f e d q p k)) (λ k. omega arith) (cases_lt e d))
    (cases_lt d e)

-- Readings that are the same have the same date.
pub date_same : (n : ℕ) (f g : Reading) (d : ℕ) → DateOf n g d → Same n g f → DateOf n f d
date_same n f g d p same = record {
  within = p.within;
  holds = λ z. sym (same false d z p.within) ∙ p.holds z;
  first = λ c z h. let w = p.within in sym (same false c z (omega arith)) ∙ p.first c z h;
  never = λ z c k h. sym (same false c k h) ∙ p.never z c k h;
}
