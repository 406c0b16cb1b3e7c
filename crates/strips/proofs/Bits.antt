-- Single bits of masks, as truth values.
use Rattle.std.proofs.Common.{◌≡◌, ℕ, ◌+◌, ◌-◌, ◌*◌, ◌%◌, ◌^◌, ◌<◌, ◌≤◌, min, max, true, false, not, ◌&&◌, ◌||◌, eqb, ltb, w64, sym, ap, ◌∙◌, ⊎_elim, mod-eq_of_lt, arith}
use Rattle.std.proofs.Math.Pow.{pow-lt}
use lib.Bits.{bit_and, bit_or}
use lib.Count.{count_trailing_zeros}
use Rattle.std.proofs.lemmas.Nat.Bits.{bit_at_and, bit_at_or, bit_at_not, bit_at-zero, bit_at_ones, bit_at_ones_above, bit_at-lt, bit_at-trailing_zeros}
use Rattle.std.specs.Int.{bit_at}
use Rattle.std.proofs.lemmas.Bool.{cases_lt, lt-ltb, le-ltb}
use Rattle.std.proofs.lemmas.Bool.Decides.{nat_tests}
use Rattle.strips.specs.Masks.{bit}

both_set : (x y : ℕ) → x < 2 → y < 2 → eqb (min x y) 1 ≡ (eqb x 1 && eqb y 1)
both_set x y h k = grind (arith, nat_tests)

either_set : (x y : ℕ) → x < 2 → y < 2 → eqb (max x y) 1 ≡ (eqb x 1 || eqb y 1)
either_set x y h k = grind (arith, nat_tests)

not_set : (x : ℕ) → x < 2 → eqb (1 - x) 1 ≡ not (eqb x 1)
not_set x h = grind (arith, nat_tests)

pub bit_of_and : (a b k : ℕ) → bit (bit_and a b) k ≡ (bit a k && bit b k)
unfolding bit
bit_of_and a b k = ap (λ n. eqb n 1) (bit_at_and a b k) ∙ both_set (bit_at a k) (bit_at b k) (bit_at-lt a k) (bit_at-lt b k)

pub bit_of_or : (a b k : ℕ) → bit (bit_or a b) k ≡ (bit a k || bit b k)
unfolding bit
bit_of_or a b k = ap (λ n. eqb n 1) (bit_at_or a b k) ∙ either_set (bit_at a k) (bit_at b k) (bit_at-lt a k) (bit_at-lt b k)

pub bit_not : (n k : ℕ) → n < 2 ^ 64 → k < 64 → bit (18446744073709551615 - n) k ≡ not (bit n k)
unfolding bit
bit_not n k h p = ap (λ n. eqb n 1) (bit_at_not w64 n k h p) ∙ not_set (bit_at n k) (bit_at-lt n k)

pub bit_zero : (k : ℕ) → bit 0 k ≡ false
unfolding bit
bit_zero k = ap (λ n. eqb n 1) (bit_at-zero k)

pub bit_all : (k : ℕ) → k < 64 → bit 18446744073709551615 k ≡ true
unfolding bit
bit_all k h = ap (λ n. eqb n 1) (bit_at_ones 64 k h)

-- the low j bits
bit_ones : (j k : ℕ) → bit (2 ^ j - 1) k ≡ ltb k j
unfolding bit
bit_ones j k =
    ⊎_elim
    (λ h. ap (λ n. eqb n 1) (bit_at_ones j k h) ∙ sym (lt-ltb k j h))
    (λ h. ap (λ n. eqb n 1) (bit_at_ones_above j k h) ∙ sym (le-ltb k j h))
    (cases_lt k j)

-- the bits of the points before i, as they are computed
pub bit_shifted : (i k : ℕ) → 1 ≤ i → i ≤ 64 → bit (1 * 2 ^ (i - 1) % 18446744073709551616 - 1) k ≡ ltb (k + 1) i
bit_shifted i k lo hi =
    let fits : 1 * 2 ^ (i - 1) < 18446744073709551616 = omega (arith, pow-lt {i = i - 1} {j = 64} (omega arith)) in
    ap (λ n. bit (n - 1) k) (mod-eq_of_lt fits) ∙ ap (λ n. bit (n - 1) k) (omega arith) ∙ bit_ones (i - 1) k ∙ grind (arith, nat_tests)

-- the lowest set bit
module _ (n : ℕ) (some : 0 < n) (fits : n < 2 ^ 64) where
  pub lowest_within : count_trailing_zeros 64 n < 64
  lowest_within = (bit_at-trailing_zeros w64 n some fits).0

  pub lowest_here : (k : ℕ) → k ≡ count_trailing_zeros 64 n → bit n k ≡ true
  unfolding bit
  lowest_here k e = ap (bit n) e ∙ ap (λ m. eqb m 1) (bit_at-trailing_zeros w64 n some fits).1

  pub lowest_below : (k : ℕ) → k < count_trailing_zeros 64 n → bit n k ≡ false
  unfolding bit
  lowest_below k h = ap (λ m. eqb m 1) ((bit_at-trailing_zeros w64 n some fits).2 k h)
