-- How the readings of `until` and `since` go by one state.
use Rattle.std.proofs.Common.{◌≡◌, ℕ, suc, ◌<◌, ◌≤◌, Bool, true, false, ◌⊎◌, ◌↔◌, refl, subst, inl, inr, arith}
use Rattle.std.proofs.lemmas.Bool.{cases_lt, cases_eq, false≢true}
use Rattle.logic.specs.States.{Trace}
use Rattle.logic.specs.Logic.{Tree, until, since, Kept, Reads, weak, strong}
use Rattle.logic.proofs.Keeps.{past}
use Rattle.dating.proofs.Says.{Settled}

pub weak_past : (s : Trace) (c v i : ℕ) (f : Tree) → c < i → Reads weak s c v i f
weak_past s c v i f far = (past weak s c v i f far).0 refl

-- what holds strongly stands in a kept state
pub kept_state : (s : Trace) (c v i : ℕ) (f : Tree) → Reads strong s c v i f → i ≤ c
kept_state s c v i f h = elim (cases_lt c i) [ inl far ↦ absurd (false≢true ((past strong s c v i f far).1 h)) | inr near ↦ near ]

pub settled : (r : Bool) (s : Trace) (c v i : ℕ) (f : Tree) → Settled r c i (Reads r s c v i f)
settled true s c v i f = weak_past s c v i f
settled false s c v i f = kept_state s c v i f

one_more : (P : ℕ → Type 0) (i k : ℕ) → P i → ((j : ℕ) → suc i ≤ j → j < k → P j) → (j : ℕ) → i ≤ j → j < k → P j
one_more P i k p q j m n = elim (cases_eq i j) [ inl e ↦ subst P e p | inr d ↦ q j (omega arith) n ]

one_less : (P : ℕ → Type 0) (i k : ℕ) → P (suc i) → ((j : ℕ) → k < j → j ≤ i → P j) → (j : ℕ) → k < j → j ≤ suc i → P j
one_less P i k p q j m n = elim (cases_eq (suc i) j) [ inl e ↦ subst P e p | inr d ↦ q j m (omega arith) ]

module _ (s : Trace) (c v : ℕ) (f g : Tree) where
  until_out : (r : Bool) (i : ℕ) → Reads r s c v i (until f g) → Reads r s c v i g ⊎ (Reads r s c v i f × Reads r s c v (suc i) (until f g))
  until_out true i h =
      elim (cases_lt c i) [
        | inl far ↦ inl (weak_past s c v i g far)
        | inr w ↦
            let x = h w in
            elim (cases_eq x.0 i) [
              | inl e ↦ inl (subst (λ (k : ℕ). Reads weak s c v k g) e x.3)
              | inr d ↦ inr (x.4 i (omega arith) (omega (arith, x.1)), λ q. (x.0, omega (arith, x.1), x.2, x.3, λ j m n. x.4 j (omega arith) n))
            ]
      ]
  until_out false i h =
      let x = h.1 in
      elim (cases_eq x.0 i) [
        | inl e ↦ inl (subst (λ (k : ℕ). Reads strong s c v k g) e x.3)
        | inr d ↦ inr (x.4 i (omega arith) (omega (arith, x.1)), (omega (arith, x.1, kept_state s c v x.0 g x.3), (x.0, omega (arith, x.1), x.2, x.3, λ j m n. x.4 j (omega arith) n)))
      ]

  until_in : (r : Bool) (i : ℕ) → Reads r s c v i g ⊎ (Reads r s c v i f × Reads r s c v (suc i) (until f g)) → Reads r s c v i (until f g)
  until_in true i (inl p) = λ w. (i, omega arith, omega arith, p, λ j m n. absurd (omega arith))
  until_in true i (inr p) = λ w.
      elim (cases_lt c (suc i)) [
        | inl far ↦ (suc i, omega arith, omega arith, weak_past s c v (suc i) g far, one_more (λ j. Reads weak s c v j f) i (suc i) p.0 (λ j m n. absurd (omega arith)))
        | inr near ↦ let x = p.1 near in (x.0, omega (arith, x.1), x.2, x.3, one_more (λ j. Reads weak s c v j f) i x.0 p.0 x.4)
      ]
  until_in false i (inl p) = let w = kept_state s c v i g p in (w, (i, omega arith, omega arith, p, λ j m n. absurd (omega arith)))
  until_in false i (inr p) =
      let x = p.1.1 in
      (omega (arith, p.1.0), (x.0, omega (arith, x.1), x.2, x.3, one_more (λ j. Reads strong s c v j f) i x.0 p.0 x.4))

  pub until_step : (r : Bool) (i : ℕ) → Reads r s c v i (until f g) ↔ (Reads r s c v i g ⊎ (Reads r s c v i f × Reads r s c v (suc i) (until f g)))
  until_step r i = (until_out r i, until_in r i)

  since_out : (r : Bool) (i : ℕ) → Reads r s c v (suc i) (since f g) → Reads r s c v (suc i) g ⊎ (Reads r s c v (suc i) f × Kept r c (suc i) (Reads r s c v i (since f g)))
  since_out true i h =
      elim (cases_lt c (suc i)) [
        | inl far ↦ inl (weak_past s c v (suc i) g far)
        | inr w ↦
            let x = h w in
            elim (cases_eq x.0 (suc i)) [
              | inl e ↦ inl (subst (λ (k : ℕ). Reads weak s c v k g) e x.3)
              | inr d ↦ inr (x.4 (suc i) (omega (arith, x.2)) (omega arith), λ q q'. (x.0, x.1, omega (arith, x.2), x.3, λ j m n. x.4 j m (omega arith)))
            ]
      ]
  since_out false i h =
      let x = h.1 in
      elim (cases_eq x.0 (suc i)) [
        | inl e ↦ inl (subst (λ (k : ℕ). Reads strong s c v k g) e x.3)
        | inr d ↦ inr (x.4 (suc i) (omega (arith, x.2)) (omega arith), (h.0, (omega (arith, h.0), (x.0, x.1, omega (arith, x.2), x.3, λ j m n. x.4 j m (omega arith)))))
      ]

  since_in : (r : Bool) (i : ℕ) → Reads r s c v (suc i) g ⊎ (Reads r s c v (suc i) f × Kept r c (suc i) (Reads r s c v i (since f g))) → Reads r s c v (suc i) (since f g)
  since_in true i (inl p) = λ w. (suc i, omega arith, omega arith, p, λ j m n. absurd (omega arith))
  since_in true i (inr p) = λ w.
      let x = p.1 w (omega arith) in
      (x.0, x.1, omega (arith, x.2), x.3, one_less (λ j. Reads weak s c v j f) i x.0 p.0 x.4)
  since_in false i (inl p) = (kept_state s c v (suc i) g p, (suc i, omega arith, omega arith, p, λ j m n. absurd (omega arith)))
  since_in false i (inr p) =
      let x = p.1.1.1 in
      (p.1.0, (x.0, x.1, omega (arith, x.2), x.3, one_less (λ j. Reads strong s c v j f) i x.0 p.0 x.4))

  pub since_step : (r : Bool) (i : ℕ) → Reads r s c v (suc i) (since f g) ↔ (Reads r s c v (suc i) g ⊎ (Reads r s c v (suc i) f × Kept r c (suc i) (Reads r s c v i (since f g))))
  since_step r i = (since_out r i, since_in r i)

  since_first_out : (r : Bool) → Reads r s c v 1 (since f g) → Reads r s c v 1 g
  since_first_out true h =
      elim (cases_lt c 1) [
        | inl far ↦ weak_past s c v 1 g far
        | inr w ↦ let x = h w in let e : x.0 ≡ 1 = omega (arith, x.1, x.2) in subst (λ (k : ℕ). Reads weak s c v k g) e x.3
      ]
  since_first_out false h =
      let x = h.1 in
      let e : x.0 ≡ 1 = omega (arith, x.1, x.2) in
      subst (λ (k : ℕ). Reads strong s c v k g) e x.3

  pub since_first : (r : Bool) → Reads r s c v 1 (since f g) ↔ Reads r s c v 1 g
  since_first r = (since_first_out r, λ p. since_in r 0 (inl p))
