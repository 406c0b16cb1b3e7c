-- What a standing means.
use Rattle.std.proofs.Common.{◌≡◌, ℕ, ◌≤◌, true, leb, ◌⊎◌, refl, ◌∙◌, subst, inl, inr, ⊎_elim, arith}
use Rattle.std.proofs.lemmas.Bool.{leb-true, leb-false, le-leb, cases_Bool, cond-true, cond-false, cond_both, both_ways}
use Rattle.logic.specs.declared.types.Rule.{Rule}
use Rattle.expectations.specs.declared.types.Label.{Label}
use Rattle.expectations.specs.declared.types.Label.TheVariants.{Unknown, TrueFrom, FalseFrom}
use Rattle.expectations.specs.declared.types.Standing.{Standing}
use Rattle.expectations.specs.declared.types.Standing.TheVariants.{NotRaised, Pending, Fulfilled, Violated}
use Rattle.expectations.specs.Expectations.{Labels, raises, judged, standing}
use Rattle.expectations.specs.Laws.{Raises, StandsAs, StandingsMean}
use Rattle.expectations.proofs.Labels.{true_is, is_true}

-- StandsAs of a raised expectation, by the label of its content
abbrev JudgedAs : Label → (c : ℕ) → Standing → Type 0
JudgedAs z c NotRaised = ⊥
JudgedAs z c Pending = (d : ℕ) → d ≤ c → (z ≡ TrueFrom d) ⊎ (z ≡ FalseFrom d) → ⊥
JudgedAs z c (Fulfilled d) = (z ≡ TrueFrom d) × (d ≤ c)
JudgedAs z c (Violated d) = (z ≡ FalseFrom d) × (d ≤ c)

judged_as : (z : Label) (c : ℕ) → JudgedAs z c (judged z c)
judged_as Unknown c = λ d l w. ⊎_elim (λ e. let z : ◌≡◌ {A = ℕ} 0 1 = cc in omega arith) (λ e. let z : ◌≡◌ {A = ℕ} 0 1 = cc in omega arith) w
judged_as (TrueFrom d) c =
    cond_both (leb d c) (Fulfilled d) Pending (JudgedAs (TrueFrom d) c) (λ t. (refl, leb-true d c t))
    (λ f e l w. ⊎_elim (λ q. let z : d ≡ e = cc in omega (arith, leb-false d c f)) (λ q. let z : ◌≡◌ {A = ℕ} 0 1 = cc in omega arith) w)
judged_as (FalseFrom d) c =
    cond_both (leb d c) (Violated d) Pending (JudgedAs (FalseFrom d) c) (λ t. (refl, leb-true d c t))
    (λ f e l w. ⊎_elim (λ q. let z : ◌≡◌ {A = ℕ} 0 1 = cc in omega arith) (λ q. let z : d ≡ e = cc in omega (arith, leb-false d c f)) w)

judged_pending : (z : Label) (c : ℕ) → JudgedAs z c Pending → judged z c ≡ Pending
judged_pending Unknown c h = refl
judged_pending (TrueFrom d) c h =
    ⊎_elim (λ (t : leb d c ≡ true). absurd (h d (leb-true d c t) (inl refl))) (λ f. cond-false (leb d c) (Fulfilled d) Pending f) (cases_Bool (leb d c))
judged_pending (FalseFrom d) c h =
    ⊎_elim (λ (t : leb d c ≡ true). absurd (h d (leb-true d c t) (inr refl))) (λ f. cond-false (leb d c) (Violated d) Pending f) (cases_Bool (leb d c))

judged_is : (z : Label) (c : ℕ) (x : Standing) → JudgedAs z c x → judged z c ≡ x
judged_is z c NotRaised h = absurd h
judged_is z c Pending h = judged_pending z c h
judged_is z c (Fulfilled d) (e, l) = let t = le-leb d c l in rw (e, t)
judged_is z c (Violated d) (e, l) = let t = le-leb d c l in rw (e, t)

module _ (labels : Labels) (r : Rule) (s c : ℕ) where
  raised_as : Raises labels r s → (x : Standing) → JudgedAs (labels r.content s) c x → StandsAs labels r s c x
  raised_as a NotRaised h = absurd h
  raised_as a Pending h = (a, h)
  raised_as a (Fulfilled d) h = (a, h.0, h.1)
  raised_as a (Violated d) h = (a, h.0, h.1)

  stands_as : StandsAs labels r s c (standing labels r s c)
  stands_as =
      let z = labels r.content s in
      cond_both (raises labels r s) (judged z c) NotRaised (StandsAs labels r s c)
      (λ t. raised_as (true_is _ _ t) (judged z c) (judged_as z c))
      (λ f a. both_ways (raises labels r s) f (is_true _ _ a))

  if_raised : Raises labels r s → (x : Standing) → JudgedAs (labels r.content s) c x → standing labels r s c ≡ x
  if_raised a x h = cond-true (raises labels r s) (judged (labels r.content s) c) NotRaised (is_true _ _ a) ∙ judged_is _ c x h

  standing_is : (x : Standing) → StandsAs labels r s c x → standing labels r s c ≡ x
  standing_is NotRaised h =
      ⊎_elim (λ (t : raises labels r s ≡ true). absurd (h (true_is _ _ t))) (λ f. cond-false (raises labels r s) _ NotRaised f) (cases_Bool (raises labels r s))
  standing_is Pending h = if_raised h.0 Pending h.1
  standing_is (Fulfilled d) h = if_raised h.0 (Fulfilled d) (h.1, h.2)
  standing_is (Violated d) h = if_raised h.0 (Violated d) (h.1, h.2)

pub standings_mean_lem : StandingsMean
standings_mean_lem labels r s c x = ((λ e. subst (StandsAs labels r s c) e (stands_as labels r s c)), standing_is labels r s c x)
