-- The first point that reads a label as decided is its date. Assumes nothing.
use Rattle.std.proofs.Common.{◌≡◌, ℕ, ◌<◌, ◌≤◌, Bool, true, false, cond, leb, ◌⊎◌, sym, refl, ap, ◌∙◌, inl, inr, arith}
use Rattle.std.proofs.lemmas.Bool.{leb-true, leb-false, le-leb, lt-leb}
use Rattle.expectations.specs.declared.types.Label.{Label}
use Rattle.expectations.specs.declared.types.Label.TheVariants.{Unknown, TrueFrom, FalseFrom}
use Rattle.expectations.specs.declared.types.Verdict.{Verdict}
use Rattle.expectations.specs.declared.types.Verdict.TheVariants as is
use Rattle.expectations.specs.Expectations.{verdict}
use Rattle.expectations.specs.Laws.{NotBefore}
use Rattle.growth.specs.Laws.{NotAfter}
use Rattle.published.specs.Asking.{dated_at}

-- the points before p, from i on, read unknown
abbrev pub OpenTo : Label → (i p : ℕ) → Type 0
OpenTo l i p = (c : ℕ) → c < p → i ≤ c → verdict l c ≡ is.Unknown

by_order : {P : Type 0} (b : Bool) (d p : ℕ) → leb d p ≡ b → (d ≤ p → P) → (p < d → P) → P
by_order true d p e f g = f (leb-true d p e)
by_order false d p e f g = g (leb-false d p e)

-- a verdict w from d on: p is the date d, if p reads w or d is not after p, and no point from i up to p does
date_is : (w v : Verdict) (i d p : ℕ) → (w ≡ is.Unknown → ⊥) → v ≡ cond (leb d p) w is.Unknown → i ≤ d
    → ((c : ℕ) → c < p → i ≤ c → cond (leb d c) w is.Unknown ≡ is.Unknown) → ((v ≡ is.Unknown → ⊥) ⊎ (d ≤ p)) → (d ≡ p) × (v ≡ w)
date_is w v i d p known e from before decided =
    by_order (leb d p) d p refl
    (λ h. by_order (leb p d) p d refl
    (λ g. (omega (arith, h, g), e ∙ ap (λ b. cond b w is.Unknown) (le-leb d p h)))
    (λ g. absurd (known (sym (ap (λ b. cond b w is.Unknown) (le-leb d d (omega arith))) ∙ before d g from))))
    (λ h. elim decided [ inl f ↦ absurd (f (e ∙ ap (λ b. cond b w is.Unknown) (lt-leb d p h))) | inr g ↦ absurd (omega (arith, h, g)) ])

true_known : is.True ≡ is.Unknown → ⊥
true_known e = let z : ◌≡◌ {A = ℕ} 0 1 = cc in omega arith

false_known : is.False ≡ is.Unknown → ⊥
false_known e = let z : ◌≡◌ {A = ℕ} 0 1 = cc in omega arith

-- what p reads, dated at p, is the label, if p reads it as decided or no later point does, and the points before p read unknown
pub dated_right : (l : Label) (v : Verdict) (i p : ℕ) → v ≡ verdict l p → NotBefore i l → OpenTo l i p → ((v ≡ is.Unknown → ⊥) ⊎ NotAfter p l) → dated_at v p ≡ l
dated_right Unknown v i p e from before decided = ap (λ (w : Verdict). dated_at w p) e
dated_right (TrueFrom d) v i p e from before decided =
    let q = date_is is.True v i d p true_known e from before decided in
    ap (λ (w : Verdict). dated_at w p) q.1 ∙ ap TrueFrom (sym q.0)
dated_right (FalseFrom d) v i p e from before decided =
    let q = date_is is.False v i d p false_known e from before decided in
    ap (λ (w : Verdict). dated_at w p) q.1 ∙ ap FalseFrom (sym q.0)
