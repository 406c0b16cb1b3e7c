-- `until`, `since` and `at`, from the readings of their parts at the states. Assumes nothing.
use Rattle.std.proofs.Common.{◌≡◌, ℕ, zero, suc, ◌+◌, ◌<◌, ◌≤◌, Bool, true, false, ◌&&◌, ◌||◌, Decides, sym, refl, ap, ◌∙◌, subst, inl, inr, ⊎_elim, arith}
use Rattle.std.proofs.lemmas.Bool.{cases_eq, or_cases, or_left, or_right, and_parts, and_from, true≢false, false≢true}
use Rattle.logic.specs.States.{Trace}
use Rattle.logic.specs.Logic.{Carries, Nameless, AtNominal}
use Rattle.logic.proofs.Uniques.{UniqueTo}

-- `until` from the point m back: one state past it, the formula reads as its second part does
module _ (o A B : ℕ → Bool) (m : ℕ) (here : (i : ℕ) → 0 < i → i ≤ m → o i ≡ (B i || (A i && o (suc i)))) (last : o (suc m) ≡ B (suc m)) where
  abbrev pub Un : ℕ → Type 0
  Un i = (k : ℕ) × (i ≤ k) × (k ≤ suc m) × (B k ≡ true) × ((j : ℕ) → i ≤ j → j < k → A j ≡ true)

  pub until_decides : (j i : ℕ) → i + j ≡ suc m → 0 < i → Decides (o i) (Un i)
  until_decides zero i s lo =
      let end : i ≡ suc m = omega arith in (
        (λ t. (i, omega arith, omega arith, ap B end ∙ sym last ∙ ap o (sym end) ∙ t, (λ j f w. absurd (omega arith)))),
        (λ u. let at-end : u.0 ≡ suc m = omega (arith, u.1, u.2) in ap o end ∙ last ∙ ap B (sym at-end) ∙ u.3),
      )
  until_decides (suc j) i s lo =
      let rec = until_decides j (suc i) (omega arith) (omega arith) in (
        (λ t.
            ⊎_elim
            (λ (b : B i ≡ true). (i, omega arith, omega arith, b, (λ j f w. absurd (omega arith))))
            (λ ax.
            let both = and_parts (A i) (o (suc i)) ax in
            let u = rec.0 both.1 in (
              u.0,
              omega (arith, u.1),
              u.2,
              u.3,
              (λ j f w. ⊎_elim (λ (e : j ≡ i). ap A e ∙ both.0) (λ ne. u.4 j (omega (arith, ne)) w) (cases_eq j i)),
            ))
            (or_cases (B i) (A i && o (suc i)) (sym (here i lo (omega arith)) ∙ t))),
        (λ u.
            here i lo (omega arith) ∙
            ⊎_elim
            (λ (e : u.0 ≡ i). or_left (B i) _ (ap B (sym e) ∙ u.3))
            (λ ne.
            or_right (B i) _ (and_from (A i) _ (u.4 i (omega arith) (omega (arith, ne, u.1)))
            (rec.1 (u.0, omega (arith, ne, u.1), u.2, u.3, (λ j f w. u.4 j (omega arith) w)))))
            (cases_eq u.0 i)),
      )

-- `since` from the first state on: r 0 stands before it
module _ (r A B : ℕ → Bool) (m : ℕ) (none : r 0 ≡ false) (here : (q : ℕ) → q < m → r (suc q) ≡ (B (suc q) || (A (suc q) && r q))) where
  abbrev pub Si : ℕ → Type 0
  Si i = (k : ℕ) × (1 ≤ k) × (k ≤ i) × (B k ≡ true) × ((j : ℕ) → k < j → j ≤ i → A j ≡ true)

  pub since_decides : (i : ℕ) → i ≤ m → Decides (r i) (Si i)
  since_decides zero h = ((λ t. absurd (true≢false (sym t ∙ none))), (λ u. absurd (omega (arith, u.1, u.2))))
  since_decides (suc q) h =
      let rec = since_decides q (omega arith) in (
        (λ t.
            ⊎_elim
            (λ (b : B (suc q) ≡ true). (suc q, omega arith, omega arith, b, (λ j f w. absurd (omega arith))))
            (λ ax.
            let two = and_parts (A (suc q)) (r q) ax in
            let u = rec.0 two.1 in
            (u.0, u.1, omega (arith, u.2), u.3, (λ j f w. ⊎_elim (λ (e : j ≡ suc q). ap A e ∙ two.0) (λ ne. u.4 j f (omega (arith, ne))) (cases_eq j (suc q)))))
            (or_cases (B (suc q)) (A (suc q) && r q) (sym (here q h) ∙ t))),
        (λ u.
            here q h ∙
            ⊎_elim
            (λ (e : u.0 ≡ suc q). or_left (B (suc q)) _ (ap B (sym e) ∙ u.3))
            (λ ne.
            or_right (B (suc q)) _ (and_from (A (suc q)) _ (u.4 (suc q) (omega (arith, ne, u.2)) (omega arith))
            (rec.1 (u.0, u.1, omega (arith, ne, u.2), u.3, (λ j f w. u.4 j f (omega arith))))))
            (cases_eq u.0 (suc q))),
      )

-- `at` where the state t that carries the nominal is kept, and where no kept state does
pub at_kept : (e : Bool) (s : Trace) (c a t : ℕ) (X : ℕ → Type 0) (b : Bool) → 1 ≤ t → t ≤ c → Carries (s t) a → UniqueTo c s → Decides b (X t) → Decides b (AtNominal e s c a X)
at_kept true s c a t X b t1 tc here one d = (
  (λ h. inr (t, t1, tc, here, d.0 h)),
  (λ k. ⊎_elim (λ none. absurd (none t t1 tc here)) (λ u. d.1 (subst X (one u.0 t a u.1 u.2 t1 tc u.3 here) u.4)) k),
)
at_kept false s c a t X b t1 tc here one d = (
  (λ h. (t, t1, tc, here, d.0 h)),
  (λ u. d.1 (subst X (one u.0 t a u.1 u.2 t1 tc u.3 here) u.4)),
)

pub at_none : (e : Bool) (s : Trace) (c a : ℕ) (X : ℕ → Type 0) → Nameless s c a → Decides e (AtNominal e s c a X)
at_none true s c a X none = ((λ h. inl none), (λ k. refl))
at_none false s c a X none = ((λ h. absurd (false≢true h)), (λ u. absurd (none u.0 u.1 u.2 u.3)))
