-- A query is refused for what its refusal says.
use Rattle.std.proofs.Common.{◌≡◌, ℕ, ◌<◌, Bool, true, false, leb, List, length, Some, None, Option, sym, refl, ◌∙◌, subst, inl, inr, arith}
use Rattle.std.proofs.lemmas.Bool.{cases_lt, leb-true, leb-false, true≢false}
use Rattle.logic.specs.declared.types.State.{State}
use Rattle.refusals.specs.declared.Refusal.{Refusal}
use Rattle.refusals.specs.declared.Refusal.TheVariants as refusal
use Rattle.answers.specs.declared.types.Call.TheVariants.{LabelAt, StandingAt, TallyOf, NoticeOf}
use Rattle.answers.specs.Answers.{Ground, outside, or_else, refusal_of, answer}
use Rattle.answers.specs.Refused.{NotWithin, LabelRefused, StandingRefused, TallyRefused, NoticeRefused, QueriesRefused}
use Rattle.answers.proofs.Refusing.{no_reason, within, inside, outcome_ok, outcome_err}

is_outside : (i low high : ℕ) → outside i low high ≡ true → NotWithin i low high
is_outside i low high e =
    elim (cases_lt i low) [
      | inl a ↦ inl a
      | inr b ↦
          elim (cases_lt high i) [
            | inl a ↦ inr a
            | inr c ↦ absurd (true≢false (sym e ∙ inside i low high b c))
          ]
    ]

not_both : (i low high : ℕ) → outside i low high ≡ false → NotWithin i low high → ⊥
not_both i low high e n =
    let w = within i low high e in
    elim n [
      | inl a ↦ omega (arith, a, w.0)
      | inr b ↦ omega (arith, b, w.1)
    ]

-- the first reason that fits is the refusal
first_is : (b : Bool) (r : Refusal) (rest : Option Refusal) (why : Refusal) (P : Refusal → Type 0) → or_else b r rest ≡ Some why → (b ≡ true → P r) → (b ≡ false → rest ≡ Some why → P why) → P why
first_is true r rest why P e here there = let z : r ≡ why = cc in subst P z (here refl)
first_is false r rest why P e here there = there refl e

none_is : (why : Refusal) (P : Refusal → Type 0) → ◌≡◌ {A = Option Refusal} None (Some why) → P why
none_is why P e = let z : ◌≡◌ {A = ℕ} 0 1 = cc in absurd (omega arith)

module _ (G : Ground) (xs : List State) where
  label : (f i c : ℕ) (why : Refusal) → refusal_of G xs (LabelAt f i c) ≡ Some why → LabelRefused G (length xs) f i c why
  label f i c why e =
      let P : Refusal → Type 0 = LabelRefused G (length xs) f i c in
      first_is (leb G.formulas f) refusal.NoSuchName _ why P e (λ b. leb-true G.formulas f b) (λ b1 e1.
      first_is (G.loose f) refusal.LooseFormula _ why P e1 (λ b. (leb-false G.formulas f b1, b)) (λ b2 e2.
      first_is (outside i 1 (length xs)) refusal.NoSuchState _ why P e2 (λ b. (leb-false G.formulas f b1, b2, is_outside i 1 (length xs) b)) (λ b3 e3.
      first_is (outside c i (length xs)) refusal.NoSuchPoint None why P e3
      (λ b. let w = within i 1 (length xs) b3 in (leb-false G.formulas f b1, b2, w.0, w.1, is_outside c i (length xs) b))
      (λ b4 e4. none_is why P e4))))

  no_label : (f i c : ℕ) → f < G.formulas → G.loose f ≡ false → (NotWithin i 1 (length xs) → ⊥) → (NotWithin c i (length xs) → ⊥) → (why : Refusal) → LabelRefused G (length xs) f i c why → ⊥
  no_label f i c low closed at by refusal.NoSuchName h = omega (arith, low, h)
  no_label f i c low closed at by refusal.LooseFormula h = true≢false (sym h.1 ∙ closed)
  no_label f i c low closed at by refusal.NoSuchState h = at h.2
  no_label f i c low closed at by refusal.NoSuchPoint h = by h.4
  no_label f i c low closed at by _ h = h

  labelled : (f i c : ℕ) → refusal_of G xs (LabelAt f i c) ≡ None → (why : Refusal) → LabelRefused G (length xs) f i c why → ⊥
  labelled f i c e why h =
      let known = no_reason (leb G.formulas f) refusal.NoSuchName _ e in
      let closed = no_reason (G.loose f) refusal.LooseFormula _ known.1 in
      let state = no_reason (outside i 1 (length xs)) refusal.NoSuchState _ closed.1 in
      let point = no_reason (outside c i (length xs)) refusal.NoSuchPoint _ state.1 in
      no_label f i c (leb-false G.formulas f known.0) closed.0 (not_both i 1 (length xs) state.0) (not_both c i (length xs) point.0) why h

  standing : (r i c : ℕ) (why : Refusal) → refusal_of G xs (StandingAt r i c) ≡ Some why → StandingRefused G (length xs) r i c why
  standing r i c why e =
      let P : Refusal → Type 0 = StandingRefused G (length xs) r i c in
      first_is (leb (length G.rules) r) refusal.NoSuchName _ why P e (λ b. leb-true (length G.rules) r b) (λ b1 e1.
      first_is (outside i 1 (length xs)) refusal.NoSuchState _ why P e1 (λ b. (leb-false (length G.rules) r b1, is_outside i 1 (length xs) b)) (λ b3 e3.
      first_is (outside c i (length xs)) refusal.NoSuchPoint None why P e3
      (λ b. let w = within i 1 (length xs) b3 in (leb-false (length G.rules) r b1, w.0, w.1, is_outside c i (length xs) b))
      (λ b4 e4. none_is why P e4)))

  no_standing : (r i c : ℕ) → r < length G.rules → (NotWithin i 1 (length xs) → ⊥) → (NotWithin c i (length xs) → ⊥) → (why : Refusal) → StandingRefused G (length xs) r i c why → ⊥
  no_standing r i c low at by refusal.NoSuchName h = omega (arith, low, h)
  no_standing r i c low at by refusal.NoSuchState h = at h.1
  no_standing r i c low at by refusal.NoSuchPoint h = by h.3
  no_standing r i c low at by _ h = h

  stood : (r i c : ℕ) → refusal_of G xs (StandingAt r i c) ≡ None → (why : Refusal) → StandingRefused G (length xs) r i c why → ⊥
  stood r i c e why h =
      let known = no_reason (leb (length G.rules) r) refusal.NoSuchName _ e in
      let state = no_reason (outside i 1 (length xs)) refusal.NoSuchState _ known.1 in
      let point = no_reason (outside c i (length xs)) refusal.NoSuchPoint _ state.1 in
      no_standing r i c (leb-false (length G.rules) r known.0) (not_both i 1 (length xs) state.0) (not_both c i (length xs) point.0) why h

  tally : (r : ℕ) (why : Refusal) → refusal_of G xs (TallyOf r) ≡ Some why → TallyRefused G r why
  tally r why e =
      first_is (leb (length G.rules) r) refusal.NoSuchName None why (TallyRefused G r) e (λ b. leb-true (length G.rules) r b) (λ b1 e1. none_is why (TallyRefused G r) e1)

  no_tally : (r : ℕ) → r < length G.rules → (why : Refusal) → TallyRefused G r why → ⊥
  no_tally r low refusal.NoSuchName h = omega (arith, low, h)
  no_tally r low _ h = h

  notice : (c k : ℕ) (why : Refusal) → refusal_of G xs (NoticeOf c k) ≡ Some why → NoticeRefused (length xs) c why
  notice c k why e =
      first_is (outside c 1 (length xs)) refusal.NoSuchPoint None why (NoticeRefused (length xs) c) e (λ b. is_outside c 1 (length xs) b) (λ b1 e1. none_is why (NoticeRefused (length xs) c) e1)

  no_notice : (c : ℕ) → (NotWithin c 1 (length xs) → ⊥) → (why : Refusal) → NoticeRefused (length xs) c why → ⊥
  no_notice c by refusal.NoSuchPoint h = by h
  no_notice c by _ h = h

pub queries_refused_lem : (G : Ground) (xs : List State) → QueriesRefused G xs
queries_refused_lem G xs = record {
  label_refused = λ f i c why e. label G xs f i c why (outcome_err (refusal_of G xs (LabelAt f i c)) (answer G xs (LabelAt f i c)) why (sym e));
  label_answered = λ f i c a e why h. labelled G xs f i c (outcome_ok (refusal_of G xs (LabelAt f i c)) (answer G xs (LabelAt f i c)) a (sym e)).0 why h;
  standing_refused = λ r i c why e. standing G xs r i c why (outcome_err (refusal_of G xs (StandingAt r i c)) (answer G xs (StandingAt r i c)) why (sym e));
  standing_answered = λ r i c a e why h. stood G xs r i c (outcome_ok (refusal_of G xs (StandingAt r i c)) (answer G xs (StandingAt r i c)) a (sym e)).0 why h;
  tally_refused = λ r why e. tally G xs r why (outcome_err (refusal_of G xs (TallyOf r)) (answer G xs (TallyOf r)) why (sym e));
  tally_answered = λ r a e why h.
      no_tally G xs r (leb-false (length G.rules) r (no_reason (leb (length G.rules) r) refusal.NoSuchName None (outcome_ok (refusal_of G xs (TallyOf r)) (answer G xs (TallyOf r)) a (sym e)).0).0) why h;
  notice_refused = λ c k why e. notice G xs c k why (outcome_err (refusal_of G xs (NoticeOf c k)) (answer G xs (NoticeOf c k)) why (sym e));
  notice_answered = λ c k a e why h.
      no_notice G xs c (not_both c 1 (length xs) (no_reason (outside c 1 (length xs)) refusal.NoSuchPoint None (outcome_ok (refusal_of G xs (NoticeOf c k)) (answer G xs (NoticeOf c k)) a (sym e)).0).0) why h;
}
