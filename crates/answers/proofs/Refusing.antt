-- A call is refused for the first reason that fits, and for none if none fits.
use Rattle.std.proofs.Common.{◌≡◌, ℕ, ◌<◌, ◌≤◌, Bool, true, false, Some, None, Ok, Err, Option, sym, refl, ap, ◌∙◌, arith}
use Rattle.std.proofs.lemmas.Bool.{and_parts, and_from, not-false, not_from_true, leb-true, le-leb, cond-true, cond-false}
use Rattle.std.proofs.lemmas.Bool.Decides.{nat_tests}
use Rattle.refusals.specs.declared.Refusal.{Refusal}
use Rattle.answers.specs.Answers.{outside, or_else, outcome}

pub no_reason : (b : Bool) (r : Refusal) (rest : Option Refusal) → or_else b r rest ≡ None → (b ≡ false) × (rest ≡ None)
no_reason true r rest e = let z : ◌≡◌ {A = ℕ} 0 1 = cc in absurd (omega arith)
no_reason false r rest e = (refl, e)

pub without_reason : {o : Option Refusal} (b : Bool) (r : Refusal) (rest : Option Refusal) → b ≡ false → rest ≡ o → or_else b r rest ≡ o
without_reason b r rest f e = cond-false b (Some r) rest f ∙ e

pub first_reason : (b : Bool) (r : Refusal) (rest : Option Refusal) → b ≡ true → or_else b r rest ≡ Some r
first_reason b r rest t = cond-true b (Some r) rest t

pub within : (i low high : ℕ) → outside i low high ≡ false → (low ≤ i) × (i ≤ high)
within i low high h = let p = and_parts _ _ (not-false _ h) in (leb-true low i p.0, leb-true i high p.1)

pub inside : (i low high : ℕ) → low ≤ i → i ≤ high → outside i low high ≡ false
inside i low high a b = not_from_true _ (and_from _ _ (le-leb low i a) (le-leb i high b))

pub beyond : (i low high : ℕ) → high < i → outside i low high ≡ true
beyond i low high past = grind (arith, nat_tests)

-- an answer is the one to a call that no refusal fits
pub outcome_ok : {A : Type 0} (o : Option Refusal) (v w : A) → Ok w ≡ outcome o v → (o ≡ None) × (w ≡ v)
outcome_ok (Some r) v w e = let z : ◌≡◌ {A = ℕ} 0 1 = cc in absurd (omega arith)
outcome_ok None v w e = (refl, cc)

-- a refusal is the one that fits
pub outcome_err : {A : Type 0} (o : Option Refusal) (v : A) (why : Refusal) → Err why ≡ outcome o v → o ≡ Some why
outcome_err (Some r) v why e = let z : why ≡ r = cc in ap Some (sym z)
outcome_err None v why e = let z : ◌≡◌ {A = ℕ} 0 1 = cc in absurd (omega arith)
