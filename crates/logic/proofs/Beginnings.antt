-- Lawful endless traces and the lawful records that begin them. Assumes nothing.
use Rattle.std.proofs.Common.{◌≡◌, ℕ, zero, suc, ◌<◌, ◌≤◌, ◌⊎◌, List, [], ◌∷◌, length, sym, refl, ap, ◌∙◌, subst, inl, inr, ⊎_elim, arith}
use Rattle.std.proofs.lemmas.List.{get_or_append_left, get_or_push, get_or_past, length_push}
use Rattle.std.proofs.lemmas.Bool.{cases_lt}
use Rattle.logic.specs.declared.types.State.{State}
use Rattle.logic.specs.States.{Trace, blank, state_at, Agree, firsts}
use Rattle.logic.specs.Lawful.{Unfit, Fit, Lawful, LawfulRecord}
use Rattle.logic.specs.Laws.{TracesBegin, LawfulByBeginnings, LawfulGoesOn}

-- a state is fit or not by the states up to it
pub fit_same : (s u : Trace) (i : ℕ) → 1 ≤ i → Agree i s u → Fit s i → Fit u i
fit_same s u i one same fit =
    let here = same i one (omega arith) in (
      (λ t. fit.0 (
        subst (λ (q : State). 0 < q.nominal) (sym here) t.0,
        (
          t.1.0,
          t.1.1,
          t.1.2,
          ap (λ (q : State). q.nominal) (same t.1.0 t.1.1 (omega (arith, t.1.2))) ∙ t.1.3 ∙ ap (λ (q : State). q.nominal) (sym here),
        ),
      )),
      (λ w. fit.1 (subst (λ (q : State). Unfit q.first i ⊎ Unfit q.second i) (sym here) w)),
    )

length_firsts : (n : ℕ) (u : Trace) → length (firsts n u) ≡ n
length_firsts zero u = refl
length_firsts (suc n) u = let more = length_push (firsts n u) (u (suc n)) in let less = length_firsts n u in omega arith

firsts_agree : (n : ℕ) (u : Trace) → Agree n (state_at (firsts n u)) u
firsts_agree n u zero one le = absurd (omega arith)
firsts_agree zero u (suc p) one le = absurd (omega arith)
firsts_agree (suc n) u (suc p) one le =
    let all = length_firsts n u in
    elim (cases_lt p n) [
      | inl old ↦ get_or_append_left (firsts n u) (u (suc n) ∷ []) blank p (omega arith) ∙ firsts_agree n u (suc p) one (omega arith)
      | inr new ↦
          let last : p ≡ n = omega arith in
          get_or_push (firsts n u) (u (suc n)) blank p (omega arith) ∙ ap (λ k. u (suc k)) (sym last)
    ]

pub traces_begin_lem : TracesBegin
traces_begin_lem u n = let all = length_firsts n u in (all, λ i one le. firsts_agree n u i one (omega arith))

pub lawful_by_beginnings_lem : LawfulByBeginnings
lawful_by_beginnings_lem u = (
  (λ law n i one le. fit_same u (state_at (firsts n u)) i one (λ j j1 ji. sym (firsts_agree n u j j1 (omega (arith, length_firsts n u)))) (law i one)),
  (λ all i one. fit_same (state_at (firsts i u)) u i one (firsts_agree i u) (all i i one (omega (arith, length_firsts i u)))),
)

-- a blank state may stand anywhere
blank_fits : (s : Trace) (i : ℕ) → s i ≡ blank → Fit s i
blank_fits s i is = (
  (λ t. let none : (s i).nominal ≡ 0 = ap (λ (q : State). q.nominal) is in omega (arith, t.0)),
  (λ w.
      let unfit : Unfit blank.first i → ⊥ =
      ⊎_elim (λ a. omega (arith, a)) (λ r. ⊎_elim (λ a. omega (arith, a.1)) (λ b. omega (arith, b.0)) r) in
      ⊎_elim unfit unfit (subst (λ (q : State). Unfit q.first i ⊎ Unfit q.second i) is w)),
)

goes_on : (xs : List State) → LawfulRecord xs → Lawful (state_at xs)
goes_on xs law zero one = absurd (omega arith)
goes_on xs law (suc p) one =
    elim (cases_lt p (length xs)) [
      | inl held ↦ law (suc p) one (omega arith)
      | inr past ↦ blank_fits (state_at xs) (suc p) (get_or_past xs p blank past)
    ]

pub lawful_goes_on_lem : LawfulGoesOn
lawful_goes_on_lem xs law = (goes_on xs law, λ i one le. refl)
