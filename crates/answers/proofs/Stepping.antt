-- What a loop over a list of calls keeps. A monitor whose count is that of its record answers each call as told after the states
-- accepted so far; over any other record it gives every call the refusal of a foreign record.
use Rattle.std.proofs.Common.{◌≡◌, ℕ, ◌+◌, ◌<◌, eqb, ◌≢◌, List, [], length, get_or, take, set, Some, Result, sym, refl, ap, ◌∙◌, ap₂, arith, below_none, below_more}
use Rattle.std.proofs.lemmas.List.{take_more, take_all, get_or-set_same, get_or-set_other, nil_from_length}
use Rattle.std.proofs.lemmas.Bool.{eq-eqb, ne_eqb, cond-true, cond-false}
use Rattle.logic.specs.declared.types.State.{State}
use Rattle.logic.specs.States.{blank}
use Rattle.refusals.specs.declared.Refusal.{Refusal}
use Rattle.refusals.specs.declared.Refusal.TheVariants as refusal
use Rattle.answers.specs.declared.types.Call.{Call}
use Rattle.answers.specs.declared.types.Call.TheVariants.{Append}
use Rattle.answers.specs.declared.types.Answer.{Answer}
use Rattle.answers.specs.Answers.{Ground, refusal_of, answer, outcome, told, after, accepted, replied, grown_to}
use Rattle.answers.specs.Law.{foreign, Ran}
use Rattle.answers.proofs.Accepting.{accepted_push}

-- ── one call ──
pub own_told : (own : ℕ) (G : Ground) (xs : List State) (call : Call) → own ≡ length xs → replied own G xs call ≡ told G xs call
own_told own G xs call e = ap (λ why. outcome why (answer G xs call)) (cond-true (eqb own (length xs)) (refusal_of G xs call) (Some refusal.ForeignRecord) (eq-eqb own (length xs) e))

pub own_grown : (own : ℕ) (G : Ground) (xs : List State) (call : Call) → own ≡ length xs → grown_to own G xs call ≡ after G xs call
own_grown own G xs call e = cond-true (eqb own (length xs)) (after G xs call) xs (eq-eqb own (length xs) e)

pub foreign_told : (own : ℕ) (G : Ground) (xs : List State) (call : Call) → (own ≡ length xs → ⊥) → replied own G xs call ≡ foreign
foreign_told own G xs call ne = ap (λ why. outcome why (answer G xs call)) (cond-false (eqb own (length xs)) (refusal_of G xs call) (Some refusal.ForeignRecord) (ne_eqb own (length xs) ne))

-- ── the first k calls ──

-- over a record of the monitor's own: each call has its answer, and the states are those accepted so far
abbrev pub OwnSoFar : Ground → (start : List State) → List Call → (k own : ℕ) → List State → List (Result Answer Refusal) → Type 0
OwnSoFar G start calls k own xs answers =
    (own ≡ length xs) × (xs ≡ accepted G start (take k calls)) ×
    ((j : ℕ) → j < k → get_or answers j foreign ≡ told G (accepted G start (take j calls)) (get_or calls j (Append blank)))

-- over a foreign record: each call was refused
abbrev pub ForeignSoFar : (k : ℕ) → List (Result Answer Refusal) → Type 0
ForeignSoFar k answers = (j : ℕ) → j < k → get_or answers j foreign ≡ foreign

pub own_none : (G : Ground) (start : List State) (calls : List Call) (own : ℕ) (answers : List (Result Answer Refusal)) → own ≡ length start → OwnSoFar G start calls 0 own start answers
own_none G start calls own answers e = (e, refl, below_none (λ j. get_or answers j foreign ≡ told G (accepted G start (take j calls)) (get_or calls j (Append blank))))

pub foreign_none : (answers : List (Result Answer Refusal)) → ForeignSoFar 0 answers
foreign_none answers = below_none (λ j. get_or answers j foreign ≡ foreign)

pub own_more : (G : Ground) (start : List State) (calls : List Call) (k own own' : ℕ) (xs xs' : List State) (answers : List (Result Answer Refusal)) (z : Result Answer Refusal)
    → k < length calls → k < length answers
    → z ≡ replied own G xs (get_or calls k (Append blank)) → xs' ≡ grown_to own G xs (get_or calls k (Append blank)) → (own ≡ length xs → own' ≡ length xs')
    → OwnSoFar G start calls k own xs answers → OwnSoFar G start calls (k + 1) own' xs' (set answers k z)
own_more G start calls k own own' xs xs' answers z h h' ez ex eo inv =
    let call = get_or calls k (Append blank) in (
      eo inv.0,
      ex ∙ own_grown own G xs call inv.0 ∙ ap (λ ys. after G ys call) inv.1 ∙ sym (accepted_push G start (take k calls) call)
          ∙ ap (accepted G start) (sym (take_more calls k (Append blank) h)),
      below_more (λ j. get_or (set answers k z) j foreign ≡ told G (accepted G start (take j calls)) (get_or calls j (Append blank))) k
          (λ j l. let ne : j ≢ k = omega arith in get_or-set_other answers k j z foreign ne ∙ inv.2 j l)
          (get_or-set_same answers k z foreign h' ∙ ez ∙ own_told own G xs call inv.0 ∙ ap (λ ys. told G ys call) inv.1),
    )

pub foreign_more : (k : ℕ) (answers : List (Result Answer Refusal)) (z : Result Answer Refusal) → k < length answers → z ≡ foreign → ForeignSoFar k answers → ForeignSoFar (k + 1) (set answers k z)
foreign_more k answers z h e inv =
    below_more (λ j. get_or (set answers k z) j foreign ≡ foreign) k
    (λ j l. let ne : j ≢ k = omega arith in get_or-set_other answers k j z foreign ne ∙ inv j l)
    (get_or-set_same answers k z foreign h ∙ e)

-- ── all calls ──
pub ran : (G : Ground) (start : List State) (calls : List Call) (k own : ℕ) (xs : List State) (answers : List (Result Answer Refusal)) → k ≡ length calls
    → (0 ≡ length start → OwnSoFar G start calls k own xs answers) → ((0 ≡ length start → ⊥) → (xs ≡ start) × ForeignSoFar k answers)
    → Ran G start calls answers xs
ran G start calls k own xs answers all mine others = record {
  foreign_record = λ some. let o = others (λ e. omega arith) in (o.0, λ j l. o.1 j (omega arith));
  own_record = λ e.
      let o = mine (sym e) in
      let none : start ≡ [] = nil_from_length start e in (
        o.1 ∙ ap₂ (accepted G) none (take_all k calls (omega arith)),
        λ j l. o.2 j (omega arith) ∙ ap (λ ys. told G (accepted G ys (take j calls)) (get_or calls j (Append blank))) none,
      );
}
