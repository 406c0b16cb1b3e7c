-- Tests on labels.
use Rattle.std.proofs.Common.{◌≡◌, ℕ, true, refl, ap}
use Rattle.std.proofs.lemmas.Bool.{false≢true, eq-eqb, eqb-true}
use Rattle.expectations.specs.declared.types.Label.{Label}
use Rattle.expectations.specs.declared.types.Label.TheVariants.{Unknown, TrueFrom, FalseFrom}
use Rattle.expectations.specs.Expectations.{true_from, false_from}

pub true_is : (z : Label) (c : ℕ) → true_from z c ≡ true → z ≡ TrueFrom c
true_is Unknown c h = absurd (false≢true h)
true_is (TrueFrom d) c h = ap TrueFrom (eqb-true d c h)
true_is (FalseFrom d) c h = absurd (false≢true h)

pub false_is : (z : Label) (c : ℕ) → false_from z c ≡ true → z ≡ FalseFrom c
false_is Unknown c h = absurd (false≢true h)
false_is (TrueFrom d) c h = absurd (false≢true h)
false_is (FalseFrom d) c h = ap FalseFrom (eqb-true d c h)

pub is_true : (z : Label) (c : ℕ) → z ≡ TrueFrom c → true_from z c ≡ true
is_true z c e = rw e (eq-eqb c c refl)

pub is_false : (z : Label) (c : ℕ) → z ≡ FalseFrom c → false_from z c ≡ true
is_false z c e = rw e (eq-eqb c c refl)
