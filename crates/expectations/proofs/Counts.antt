-- Tallies.
use Rattle.std.proofs.Common.{◌≡◌, ℕ, zero, suc, ◌+◌, ◌≤◌, Bool, true, false, cond, leb, refl, ap, arith}
use Rattle.logic.specs.declared.types.Rule.{Rule}
use Rattle.expectations.specs.declared.types.Label.{Label}
use Rattle.expectations.specs.declared.types.Label.TheVariants.{Unknown, TrueFrom, FalseFrom}
use Rattle.expectations.specs.declared.types.Standing.{Standing}
use Rattle.expectations.specs.declared.types.Standing.TheVariants.{NotRaised, Pending, Fulfilled, Violated}
use Rattle.expectations.specs.Expectations.{Labels, count, judged, standing, is_raised, is_pending, is_fulfilled, is_violated, tallied, added}
use Rattle.expectations.specs.Laws.{TalliesSum}

one : (x : Standing) → cond (is_raised x) 1 0 ≡ cond (is_pending x) 1 0 + (cond (is_fulfilled x) 1 0 + cond (is_violated x) 1 0)
one NotRaised = refl
one Pending = refl
one (Fulfilled d) = refl
one (Violated d) = refl

count_sum : (x : ℕ → Standing) (n : ℕ) →
    count (λ s. is_raised (x s)) n ≡ count (λ s. is_pending (x s)) n + (count (λ s. is_fulfilled (x s)) n + count (λ s. is_violated (x s)) n)
count_sum x zero = refl
count_sum x (suc n) = omega (arith, count_sum x n, one (x (suc n)))

pub tallies_sum_lem : TalliesSum
tallies_sum_lem labels r c n = count_sum (λ s. standing labels r s c) n

at_most_one : (b : Bool) → cond b 1 0 ≤ 1
at_most_one true = omega arith
at_most_one false = omega arith

-- no more are counted than there are
pub count_le : (p : ℕ → Bool) (n : ℕ) → count p n ≤ n
count_le p zero = omega arith
count_le p (suc n) = omega (arith, count_le p n, at_most_one (p (suc n)))

pub count_same : (p q : ℕ → Bool) (n : ℕ) → ((s : ℕ) → 1 ≤ s → s ≤ n → p s ≡ q s) → count p n ≡ count q n
count_same p q zero h = refl
count_same p q (suc n) h =
    let e = h (suc n) (omega arith) (omega arith) in
    omega (arith, count_same p q n (λ s a b. h s a (omega arith)), ap {B = ℕ} (λ b. cond b 1 0) e)

at_least : (b d : Bool) → (b ≡ true → d ≡ true) → cond b 1 0 ≤ cond d 1 0
at_least true d h = let e = h refl in rw e (omega arith)
at_least false d h = omega arith

-- a weaker test counts no fewer
pub count_weaker : (p q : ℕ → Bool) (n : ℕ) → ((s : ℕ) → 1 ≤ s → s ≤ n → p s ≡ true → q s ≡ true) → count p n ≤ count q n
count_weaker p q zero h = omega arith
count_weaker p q (suc n) h =
    omega (arith, count_weaker p q n (λ s a b. h s a (omega arith)), at_least (p (suc n)) (q (suc n)) (h (suc n) (omega arith) (omega arith)))

-- an expectation counts as raised whatever has become of it
pub raised_is : (b : Bool) (z : Label) (c : ℕ) → is_raised (cond b (judged z c) NotRaised) ≡ b
raised_is false z c = refl
raised_is true Unknown c = refl
raised_is true (TrueFrom d) c = raised_or_pending (leb d c)
  where
    raised_or_pending : (q : Bool) → is_raised (cond q (Fulfilled d) Pending) ≡ true
    raised_or_pending true = refl
    raised_or_pending false = refl
raised_is true (FalseFrom d) c = raised_or_pending (leb d c)
  where
    raised_or_pending : (q : Bool) → is_raised (cond q (Violated d) Pending) ≡ true
    raised_or_pending true = refl
    raised_or_pending false = refl

-- the tally of one state more
pub tally_more : (labels : Labels) (r : Rule) (c n : ℕ) → tallied labels r c (suc n) ≡ added (standing labels r (suc n) c) (tallied labels r c n)
tally_more labels r c n = refl
