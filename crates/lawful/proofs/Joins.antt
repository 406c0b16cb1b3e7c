-- A record with one state more. Assumes nothing.
use Rattle.std.proofs.Common.{◌≡◌, ℕ, zero, suc, ◌+◌, ◌-◌, ◌<◌, ◌≤◌, Bool, ◌⊎◌, List, [], ◌∷◌, ◌++◌, length, Decides, sym, refl, ap, ◌∙◌, subst, ⊎_elim, add-one, arith}
use Rattle.std.proofs.lemmas.List.{get_or_append_left, get_or_push, length_push}
use Rattle.std.proofs.lemmas.Bool.{cases_eq}
use Rattle.logic.specs.declared.types.State.{State}
use Rattle.logic.specs.States.{blank, state_at}
use Rattle.logic.specs.Lawful.{NominalTaken, Unfit, ReferenceUnfit, Fit, LawfulRecord}
use Rattle.logic.proofs.Beginnings.{fit_same}
use Rattle.lawful.specs.Unlawful.{joined}

pub joined_old : (xs : List State) (x : State) (i : ℕ) → i ≤ length xs → joined xs x i ≡ state_at xs i
joined_old xs x zero h = refl
joined_old xs x (suc p) h = get_or_append_left xs (x ∷ []) blank p h

pub joined_new : (xs : List State) (x : State) → joined xs x (length xs + 1) ≡ x
joined_new xs x = ap (joined xs x) (add-one (length xs)) ∙ get_or_push xs x blank (length xs) refl

pub lawful_more : (xs : List State) (x : State) → LawfulRecord xs → Fit (joined xs x) (length xs + 1) → LawfulRecord (xs ++ x ∷ [])
lawful_more xs x law fit i one le =
    let n : length (xs ++ x ∷ []) ≡ length xs + 1 = length_push xs x in
    ⊎_elim
    (λ (e : i ≡ length xs + 1). subst (Fit (joined xs x)) (sym e) fit)
    (λ ne. fit_same (state_at xs) (joined xs x) i one (λ j j1 ji. sym (joined_old xs x j (omega (arith, ne)))) (law i one (omega (arith, ne))))
    (cases_eq i (length xs + 1))

-- a nominal is taken by the next state if a state of the record carries it
pub taken_joined : (xs : List State) (x : State) (b : Bool) → Decides b ((0 < x.nominal) × ((p : ℕ) × (p < length xs) × ((state_at xs (p + 1)).nominal ≡ x.nominal)))
    → Decides b (NominalTaken (joined xs x) (length xs + 1))
taken_joined xs x b d =
    let new : (joined xs x (length xs + 1)).nominal ≡ x.nominal = ap (λ (q : State). q.nominal) (joined_new xs x) in (
      (λ t. let w = d.0 t in (
        subst (λ k. 0 < k) (sym new) w.0,
        (w.1.0 + 1, omega arith, omega (arith, w.1.1), ap (λ (q : State). q.nominal) (joined_old xs x (w.1.0 + 1) (omega (arith, w.1.1))) ∙ w.1.2 ∙ sym new),
      )),
      (λ t. d.1 (
        subst (λ k. 0 < k) new t.0,
        (
          t.1.0 - 1,
          omega (arith, t.1.1, t.1.2),
          ap (λ j. (state_at xs j).nominal) (omega (arith, t.1.1)) ∙ ap (λ (q : State). q.nominal) (sym (joined_old xs x t.1.0 (omega (arith, t.1.2)))) ∙ t.1.3 ∙ new,
        ),
      )),
    )

pub unfit_joined : (xs : List State) (x : State) (i : ℕ) → i ≡ length xs + 1 → (b : Bool) → Decides b (Unfit x.first i ⊎ Unfit x.second i) → Decides b (ReferenceUnfit (joined xs x) i)
unfit_joined xs x i is b d =
    let new : joined xs x i ≡ x = ap (joined xs x) is ∙ joined_new xs x in
    subst (λ (q : State). Decides b (Unfit q.first i ⊎ Unfit q.second i)) (sym new) d
