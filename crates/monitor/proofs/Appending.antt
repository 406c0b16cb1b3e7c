-- What an append is refused for, and what it leaves. Assumes nothing.
use Rattle.std.proofs.Common.{◌≡◌, ℕ, ◌+◌, ◌<◌, ◌≤◌, Bool, true, false, cond, eqb, List, [], ◌∷◌, ◌++◌, length, Some, None, Ok, Err, Option, Result, sym, refl, ap, ◌∙◌, subst, ⊎_elim, arith, length-append, MatchResult}
use Rattle.std.proofs.lemmas.Bool.{eq-eqb, eqb-true, lt-leb, cond-true, cond-false, cases_Bool}
use Rattle.logic.specs.declared.types.State.{State}
use Rattle.records.specs.Growth.{Appended}
use Rattle.logic.specs.Lawful.{NominalTaken, ReferenceUnfit, LawfulRecord}
use Rattle.logic.specs.Tests.{either_unfit}
use Rattle.refusals.specs.declared.Refusal.{Refusal}
use Rattle.refusals.specs.declared.Refusal.TheVariants as refusal
use Rattle.lawful.specs.Unlawful.{joined, MayFollow, MayNotFollow}
use Rattle.answers.specs.declared.types.Call.TheVariants.{Append}
use Rattle.answers.specs.Tests.{taken}
use Rattle.answers.specs.Answers.{Ground, refusal_of, refused_by}
use Rattle.answers.proofs.Tested.{taken_decides, reference_decides, fit_takes, takes_fit, takes_lawful}

module _ (own : ℕ) (G : Ground) (xs : List State) (x : State) (mine : own ≡ length xs) where
  own_refusal : refusal_of G xs (Append x) ≡ refused_by own G xs (Append x)
  own_refusal = sym (cond-true _ (refusal_of G xs (Append x)) (Some refusal.ForeignRecord) (eq-eqb own (length xs) mine))

  module _ (short : length xs < 256) (roomy : length xs < G.capacity) where
    -- past the first two reasons
    later : (rest : Option Refusal) → cond (taken xs x) (Some (refusal.NominalTaken (length xs + 1))) (cond (either_unfit x (length xs + 1)) (Some (refusal.ReferenceUnfit (length xs + 1))) None) ≡ rest
        → rest ≡ refused_by own G xs (Append x)
    later rest is =
        sym (cond-false _ _ _ (lt-leb 256 (length xs) short) ∙ cond-false _ _ _ (lt-leb G.capacity (length xs) roomy) ∙ is) ∙ own_refusal

    refused_some : (why : Refusal) → MayNotFollow xs x why → Some why ≡ refused_by own G xs (Append x)
    refused_some refusal.TooManyStates h = absurd (omega arith)
    refused_some (refusal.NominalTaken i) h =
        later (Some (refusal.NominalTaken i))
        (cond-true _ _ _ ((taken_decides xs x).1 (subst (λ j. NominalTaken (joined xs x) j) h.1 h.2))
        ∙ ap (λ j. Some (refusal.NominalTaken j)) (sym h.1))
    refused_some (refusal.ReferenceUnfit i) h =
        later (Some (refusal.ReferenceUnfit i))
        (cond-false _ _ _ (free (subst (λ j. NominalTaken (joined xs x) j → ⊥) h.1 h.2))
        ∙ cond-true _ _ _ ((reference_decides xs x).1 (subst (λ j. ReferenceUnfit (joined xs x) j) h.1 h.3))
        ∙ ap (λ j. Some (refusal.ReferenceUnfit j)) (sym h.1))
      where
        free : (NominalTaken (joined xs x) (length xs + 1) → ⊥) → taken xs x ≡ false
        free no_one = ⊎_elim (λ (t : taken xs x ≡ true). absurd (no_one ((taken_decides xs x).0 t))) (λ (t : taken xs x ≡ false). t) (cases_Bool (taken xs x))
    refused_some _ h = absurd h

    pub refused_next : (r : Result (Unit {0}) Refusal) → MatchResult r (λ _. MayFollow xs x) (λ why. MayNotFollow xs x why)
        → MatchResult r (λ _. refused_by own G xs (Append x) ≡ None) (λ why. refused_by own G xs (Append x) ≡ Some why)
    refused_next (Ok u) h = sym (sym (fit_takes G xs x h roomy) ∙ own_refusal)
    refused_next (Err why) h = sym (refused_some why h)

-- a call that no refusal fits is over the monitor's own record, and not refused there
pub none_only : (b : Bool) (o : Option Refusal) → cond b o (Some refusal.ForeignRecord) ≡ None → (b ≡ true) × (o ≡ None)
none_only true o h = (refl, h)
none_only false o h = let z : ◌≡◌ {A = ℕ} 0 1 = cc in absurd (omega arith)

-- an append that no refusal fits
module _ (own : ℕ) (G : Ground) (xs : List State) (x : State) (free : refused_by own G xs (Append x) ≡ None) where
  pub own_count : own ≡ length xs
  own_count = eqb-true own (length xs) (none_only (eqb own (length xs)) (refusal_of G xs (Append x)) free).0

  pub takes : refusal_of G xs (Append x) ≡ None
  takes = (none_only (eqb own (length xs)) (refusal_of G xs (Append x)) free).1

appended_ok : {U E : Type 0} (xs : List State) (room : ℕ) (x : State) (r : Result U E) (ys : List State) → Appended xs room x r ys → length xs < room → ys ≡ xs ++ x ∷ []
appended_ok xs room x (Ok u) ys h less = h.1
appended_ok xs room x (Err e) ys h less = absurd (omega (arith, h.0))

-- the record that an append leaves which no refusal fits
pub grown : {U E : Type 0} (own : ℕ) (G : Ground) (xs ys : List State) (x : State) (r : Result U E) → refused_by own G xs (Append x) ≡ None
    → (own ≡ length xs → LawfulRecord xs) → Appended xs G.capacity x r ys
    → (ys ≡ xs ++ x ∷ []) × (LawfulRecord ys × (length ys ≤ 256)) × (length ys ≤ G.capacity)
grown own G xs ys x r free law h =
    let taken = takes own G xs x free in
    let fit = takes_fit G xs x taken in
    let e : ys ≡ xs ++ x ∷ [] = appended_ok xs G.capacity x r ys h fit.1 in
    let long : length ys ≡ length xs + length (x ∷ []) = ap length e ∙ length-append xs (x ∷ []) in (
      e,
      (subst LawfulRecord (sym e) (takes_lawful G xs x (law (own_count own G xs x free)) taken), omega (arith, long, fit.0.0)),
      omega (arith, long, fit.1),
    )
