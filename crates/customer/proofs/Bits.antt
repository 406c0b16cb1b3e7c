-- Single bits of masks, as truth values.
use Rattle.std.proofs.Common.{◌≡◌, ℕ, ◌+◌, ◌-◌, ◌*◌, ◌%◌, ◌^◌, ◌<◌, ◌≤◌, min, max, true, false, not, ◌&&◌, ◌||◌, eqb, ltb, sym, ap, ◌∙◌, ⊎_elim, mod-eq_of_lt, arith}
use Rattle.std.proofs.Math.Pow.{pow-lt}
use lib.Bits.{bit_and, bit_or}
use Rattle.std.specs.Int.{w128}
use Rattle.std.proofs.lemmas.Nat.Bits.{bit_at_and, bit_at_or, bit_at_not, bit_at-zero, bit_at_ones, bit_at_ones_above, bit_at-lt}
use Rattle.std.specs.Int.{bit_at}
use Rattle.std.proofs.lemmas.Bool.{cases_lt, lt-ltb, le-ltb}
use Rattle.std.proofs.lemmas.Bool.Decides.{nat_tests}
use Rattle.customer.specs.Wide.{bit}

both_set : (x y : ℕ) → x < 2 → y < 2 → eqb (min x y) 1 ≡ (eqb x 1 && eqb y 1)
both_set x y h k = grind (arith, nat_tests)

either_set : (x y : ℕ) → x < 2 → y < 2 → eqb (max x y) 1 ≡ (eqb x 1 || eqb y 1)
either_set x y h k = grind (arith, nat_tests)

not_set : (x : ℕ) → x < 2 → eqb (1 - x) 1 ≡ not (eqb x 1)
not_set x h = grind (arith, nat_tests)

pub bit_of_and : (a b k : ℕ) → bit (bit_and a b) k ≡ (bit a k && bit b k)
unfolding bit
bit_of_and a b k = ap (λ n. eqb n 1) (bit_at_and a b k) ∙ both_set (bit_at a k) (bit_at b k) (bit_at-lt a k) (bit_at-lt b k)

pub bit_of_or : (a b k : ℕ) → bit (bit_or a b) k ≡ (bit a k || bit b k)
unfolding bit
bit_of_or a b k = ap (λ n. eqb n 1) (bit_at_or a b k) ∙ either_set (bit_at a k) (bit_at b k) (bit_at-lt a k) (bit_at-lt b k)

pub bit_not : (n k : ℕ) → n < 2 ^ 128 → k < 128 → bit (340282366920938463463374607431768211455 - n) k ≡ not (bit n k)
unfolding bit
bit_not n k h p = ap (λ n. eqb n 1) (bit_at_not w128 n k h p) ∙ not_set (bit_at n k) (bit_at-lt n k)

pub bit_zero : (k : ℕ) → bit 0 k ≡ false
unfolding bit
bit_zero k = ap (λ n. eqb n 1) (bit_at-zero k)

pub bit_all : (k : ℕ) → k < 128 → bit 340282366920938463463374607431768211455 k ≡ true
unfolding bit
bit_all k h = ap (λ n. eqb n 1) (bit_at_ones 128 k h)

-- the low j bits
bit_ones : (j k : ℕ) → bit (2 ^ j - 1) k ≡ ltb k j
unfolding bit
bit_ones j k =
    ⊎_elim
    (λ h. ap (λ n. eqb n 1) (bit_at_ones j k h) ∙ sym (lt-ltb k j h))
    (λ h. ap (λ n. eqb n 1) (bit_at_ones_above j k h) ∙ sym (le-ltb k j h))
    (cases_lt k j)

-- the bits of the points before i, as they are computed
pub bit_shifted : (i k : ℕ) → 1 ≤ i → i ≤ 128 → bit (1 * 2 ^ (i - 1) % 340282366920938463463374607431768211456 - 1) k ≡ ltb (k + 1) i
bit_shifted i k lo hi =
    let fits : 1 * 2 ^ (i - 1) < 340282366920938463463374607431768211456 = omega (arith, pow-lt {i = i - 1} {j = 128} (omega arith)) in
    ap (λ n. bit (n - 1) k) (mod-eq_of_lt fits) ∙ ap (λ n. bit (n - 1) k) (omega arith) ∙ bit_ones (i - 1) k ∙ grind (arith, nat_tests)
