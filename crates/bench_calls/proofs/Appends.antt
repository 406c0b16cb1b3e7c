-- One state that is appended to a monitor. Assumes nothing.
use Rattle.std.proofs.Common.{◌≡◌, ℕ, List, [], ◌∷◌, ◌++◌, length, Ok, Err, sym, ap, ◌∙◌}
use Rattle.logic.specs.declared.types.State.{State}
use Rattle.refusals.specs.declared.Refusal.{Refusal}
use Rattle.refusals.specs.Numbers.{told}
use Rattle.answers.specs.declared.types.Call.TheVariants.{Append}
use Rattle.answers.specs.Answers.{Ground, refusal_of, refused_by, outcome}
use Rattle.answers.proofs.Refusing.{outcome_ok, outcome_err}
use Rattle.watch_lib.proofs.Taking.{own_refusal}
use Rattle.bench_calls.specs.Outcomes.{stopped, or_stopped, appended}

module _ {A : Type 0} (G H : Ground) (same : H ≡ G) (xs left later : List State) (x : State) (own : ℕ) (v : A) (counted : own ≡ length xs) (next : left ≡ x ∷ later) where
  -- it is taken, and the others follow
  pub goes_on : (w : A) → Ok w ≡ outcome (refused_by own H xs (Append x)) v → appended G xs left ≡ appended G (xs ++ x ∷ []) later
  goes_on w e =
      let p = outcome_ok (refused_by own H xs (Append x)) v w e in
      ap (appended G xs) next
      ∙ ap (λ o. or_stopped o (length xs) (appended G (xs ++ x ∷ []) later)) (ap (λ K. refusal_of K xs (Append x)) (sym same) ∙ sym (own_refusal own H xs (Append x) counted) ∙ p.0)

  -- it is refused, and that is all
  pub ends : (why : Refusal) → Err why ≡ outcome (refused_by own H xs (Append x)) v → appended G xs left ≡ stopped (told why) (length xs)
  ends why e =
      ap (appended G xs) next
      ∙ ap (λ o. or_stopped o (length xs) (appended G (xs ++ x ∷ []) later)) (ap (λ K. refusal_of K xs (Append x)) (sym same) ∙ sym (own_refusal own H xs (Append x) counted) ∙ outcome_err (refused_by own H xs (Append x)) v why e)
