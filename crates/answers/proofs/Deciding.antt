-- What a verdict tells of the label that was read.
use Rattle.std.proofs.Common.{◌≡◌, ℕ, Bool, true, false, cond, leb, refl, arith}
use Rattle.expectations.specs.declared.types.Label.{Label}
use Rattle.expectations.specs.declared.types.Label.TheVariants.{Unknown, TrueFrom, FalseFrom}
use Rattle.expectations.specs.declared.types.Verdict.{Verdict}
use Rattle.expectations.specs.declared.types.Verdict.TheVariants as is
use Rattle.expectations.specs.Expectations.{verdict}

false_not_true : (b : Bool) → ◌≡◌ {A = Verdict} (cond b is.False is.Unknown) is.True → ⊥
false_not_true true e = let z : ◌≡◌ {A = ℕ} 0 1 = cc in omega arith
false_not_true false e = let z : ◌≡◌ {A = ℕ} 0 1 = cc in omega arith

true_not_false : (b : Bool) → ◌≡◌ {A = Verdict} (cond b is.True is.Unknown) is.False → ⊥
true_not_false true e = let z : ◌≡◌ {A = ℕ} 0 1 = cc in omega arith
true_not_false false e = let z : ◌≡◌ {A = ℕ} 0 1 = cc in omega arith

pub true_has_date : (z : Label) (c : ℕ) → verdict z c ≡ is.True → (d : ℕ) × (z ≡ TrueFrom d)
true_has_date Unknown c e = let z : ◌≡◌ {A = ℕ} 0 1 = cc in absurd (omega arith)
true_has_date (TrueFrom d) c e = (d, refl)
true_has_date (FalseFrom d) c e = absurd (false_not_true (leb d c) e)

pub false_has_date : (z : Label) (c : ℕ) → verdict z c ≡ is.False → (d : ℕ) × (z ≡ FalseFrom d)
false_has_date Unknown c e = let z : ◌≡◌ {A = ℕ} 0 1 = cc in absurd (omega arith)
false_has_date (TrueFrom d) c e = absurd (true_not_false (leb d c) e)
false_has_date (FalseFrom d) c e = (d, refl)
