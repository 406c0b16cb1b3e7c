-- A small log over a record in two arrays, and what the law of a monitor says of it: one fact from each of its clauses.
use Rattle.std.specs.Prelude.{◌≡◌, ℕ, ◌<◌, ◌≤◌, ◌⊎◌, List, [], ◌∷◌, length, Some, None, Ok, Err, Result}
use Rattle.logic.specs.declared.types.State.{State}
use Rattle.logic.specs.States.{Trace, Begins, no_reference}
use Rattle.logic.specs.Lawful.{Lawful, LawfulRecord}
use Rattle.logic.specs.Logic.{Tree, Holds, signal, next}
use Rattle.refusals.specs.declared.Refusal.{Refusal}
use Rattle.refusals.specs.declared.Refusal.TheVariants as refusal
use Rattle.lawful.specs.Unlawful.{MayFollow, MayNotFollow}
use Rattle.expectations.specs.declared.types.Label.TheVariants.{TrueFrom}
use Rattle.expectations.specs.declared.types.Verdict.TheVariants as is
use Rattle.expectations.specs.declared.types.Standing.TheVariants.{Pending, Violated}
use Rattle.expectations.specs.declared.types.Event.TheVariants.{Raising, Fulfilling, Violating}
use Rattle.expectations.specs.declared.types.Notice.{Notice}
use Rattle.expectations.specs.declared.types.Tally.{Tally}
use Rattle.expectations.specs.Laws.{Before, NotBefore}
use Rattle.expectations.specs.Told.{times_told}
use Rattle.expectations.specs.Counted.{NoFewer}
use Rattle.answers.specs.declared.types.Answer.{Answer}
use Rattle.answers.specs.declared.types.Answer.TheVariants.{Number, Reads, Stands, Counts, Tells}
use Rattle.answers.specs.declared.types.Call.{Call}
use Rattle.answers.specs.declared.types.Call.TheVariants.{Append, LabelAt, StandingAt, TallyOf, NoticeOf}
use Rattle.answers.specs.Answers.{Ground}
use Rattle.answers.specs.Law.{foreign, Takes, LabelIs, StandingIs, TallyIs, NoticeIs, ToldOnce, NeverTold, HappensAt}
use Rattle.answers.specs.Lasting.{AnswerIs, PointRefused}
use Rattle.answers.specs.Refused.{LabelRefused, StandingRefused, TallyRefused, NoticeRefused}
use Rattle.monitor.specs.Book.{ground}
use Rattle.monitor.specs.Meant.{HoldsWeakly, HoldsStrongly, Expects, GoesOn}
use Rattle.customer.specs.Slot.{slot_formulas, slot_rule}

-- the states at which the slot is taken, and freed; and one that has nominal 7 besides
abbrev pub taken : State
taken = record { signals = 1; nominal = 0; first = no_reference; second = no_reference }

abbrev pub freed : State
freed = record { signals = 2; nominal = 0; first = no_reference; second = no_reference }

abbrev pub named : State
named = record { signals = 1; nominal = 7; first = no_reference; second = no_reference }

-- the slot is freed after state 1, and not after state 3, which has nominal 7
abbrev pub two : List State
two = taken ∷ freed ∷ []

abbrev pub four : List State
four = taken ∷ freed ∷ named ∷ taken ∷ []

abbrev pub five : List State
five = taken ∷ freed ∷ named ∷ taken ∷ freed ∷ []

-- the slot's table, over a record with room for 16 states
abbrev pub slots : Ground
slots = ground slot_formulas (slot_rule ∷ []) 16

-- the content of the slot's rule
abbrev pub is_freed_next : Tree
is_freed_next = next (signal 1)

abbrev pub tried_calls : List Call
tried_calls =
    Append taken ∷ Append freed ∷ Append named ∷ Append taken ∷ StandingAt 0 3 4 ∷ LabelAt 2 1 2 ∷ NoticeOf 4 0 ∷ TallyOf 0
    ∷ Append named ∷ Append freed ∷ StandingAt 0 3 5 ∷ LabelAt 2 1 5 ∷ NoticeOf 4 0 ∷ TallyOf 0 ∷ []

-- the violation of state 3, and the raising that is told after it at point 4
abbrev pub lost : Notice
lost = record { rule = 0; from = 3; event = Violating }

abbrev pub raised : Notice
raised = record { rule = 0; from = 4; event = Raising }

-- the expectation of state 1 is never violated
abbrev pub not_lost : Notice
not_lost = record { rule = 0; from = 1; event = Violating }

abbrev pub tally_four : Tally
tally_four = record { raised = 3; pending = 1; fulfilled = 1; violated = 1 }

abbrev pub tally_five : Tally
tally_five = record { raised = 3; pending = 0; fulfilled = 2; violated = 1 }

-- what is answered to the calls: a second state with nominal 7 is refused
abbrev pub tried_answers : List (Result Answer Refusal)
tried_answers =
    Ok (Number 1) ∷ Ok (Number 2) ∷ Ok (Number 3) ∷ Ok (Number 4) ∷ Ok (Stands (Violated 4)) ∷ Ok (Reads is.True) ∷ Ok (Tells (Some lost))
    ∷ Ok (Counts tally_four)
    ∷ Err (refusal.NominalTaken 5) ∷ Ok (Number 5) ∷ Ok (Stands (Violated 4)) ∷ Ok (Reads is.True) ∷ Ok (Tells (Some lost)) ∷ Ok (Counts tally_five) ∷ []

-- over a record that starts with a state, three calls get the refusal of a foreign record
abbrev pub held_answers : List (Result Answer Refusal)
held_answers = foreign ∷ foreign ∷ foreign ∷ []

-- What `Judged` says after the four states, and after the two.
pub record JudgedSo : Type 0 where
  pub lawful : LawfulRecord four
  -- state 3 with nominal 7 may follow two states, and is taken
  pub takes_what_may_follow : MayFollow two named × (2 < 16)
  pub may_follow_is_taken : Takes slots two named
  -- the slot is freed after state 1 on every lawful endless trace that begins with the four states, and after state 3 on none
  pub true_is_so : (u : Trace) → Lawful u → Begins four u → (v : ℕ) → Holds u v 1 is_freed_next
  pub false_is_not : (u : Trace) → Lawful u → Begins four u → (v : ℕ) → Holds u v 3 is_freed_next → ⊥
  -- the label of the content at state 3 is not dated before 3
  pub dated : NotBefore 3 (slots.labelled four 2 3)
  -- the label of the content at state 1 is true from point 2 after four states, and after five
  pub labels_grow : slots.labelled five 2 1 ≡ TrueFrom 2
  -- and point 2 reads it as before, and point 5 as true
  pub points_stay : LabelIs slots five 2 1 2 is.True
  pub verdicts_stay : LabelIs slots five 2 1 5 is.True
  -- the expectation of state 4 is open at point 4 also after state 5; that of state 3 stays violated at point 5
  pub standings_stay : StandingIs slots five 0 4 4 Pending
  pub standings_last : StandingIs slots five 0 3 5 (Violated 4)
  -- point 4 tells the violation after state 5 too
  pub notices_stay : NoticeIs slots five 4 0 (Some lost)
  -- of three expectations one is open, one fulfilled and one violated
  pub tallies_sum : (left : ℕ) → TallyIs slots four 0 (record { raised = 3; pending = left; fulfilled = 1; violated = 1 }) → left ≡ 1
  -- three raisings, one fulfilment and one violation were told
  pub tallies_told : (times_told (slots.labelled four) slots.rules 4 0 Raising ≡ 3)
      × (times_told (slots.labelled four) slots.rules 4 0 Fulfilling ≡ 1) × (times_told (slots.labelled four) slots.rules 4 0 Violating ≡ 1)
  -- and a tally after state 5 counts no fewer
  pub tallies_grow : (t : Tally) → TallyIs slots five 0 t → NoFewer tally_four t
  -- the violation of state 3 is told once at point 4, and a violation of state 1 never
  pub notices_once : ToldOnce slots four lost 4
  pub notices_never : NeverTold slots four not_lost 4
  -- it happened: the condition is true at state 3, and the content is false there from point 4
  pub notices_happen : HappensAt slots four lost 4
  -- it is told at no other place
  pub notices_at_one_point : (d k : ℕ) → NoticeIs slots four d k (Some lost) → (4 ≡ d) × (0 ≡ k)
  -- and before the raising of state 4; point 4 tells two notices, and none after them
  pub notices_in_order : Before lost raised
  pub no_gaps : NoticeIs slots four 4 9 None

-- What `Meant` says after the four states: what the answers mean by the readings of the content.
pub record MeantSo : Type 0 where
  pub verdicts : HoldsStrongly four is_freed_next 1 2
  pub refuted : HoldsWeakly four is_freed_next 3 4 → ⊥
  pub standings : Expects four (signal 0) is_freed_next 3 4 (Violated 4)
  -- a second state with nominal 7 is refused, since it may not follow
  pub appends : MayNotFollow four named (refusal.NominalTaken 5)

-- What `Lasts` says after the four states, of those after state 5.
pub record LastsSo : Type 0 where
  pub labels : LabelIs slots five 2 1 5 is.True
  pub standings : StandingIs slots five 0 3 5 (Violated 4)
  pub old_labels : LabelIs slots five 2 4 4 is.Unknown
  pub old_standings : StandingIs slots five 0 4 4 Pending
  pub old_notices : NoticeIs slots five 4 2 None
  pub tallies : (t : Tally) → TallyIs slots five 0 t → NoFewer tally_four t

-- What `QueriesRefused` says after the four states: there is no formula 3, no rule 1 and no point 5, and no refusal fits what is answered.
pub record RefusedSo : Type 0 where
  pub label_refused : LabelRefused slots 4 3 1 1 refusal.NoSuchName
  pub label_answered : (why : Refusal) → LabelRefused slots 4 2 1 2 why → ⊥
  pub standing_refused : StandingRefused slots 4 0 1 5 refusal.NoSuchPoint
  pub standing_answered : (why : Refusal) → StandingRefused slots 4 0 3 4 why → ⊥
  pub tally_refused : TallyRefused slots 1 refusal.NoSuchName
  pub tally_answered : (why : Refusal) → TallyRefused slots 0 why → ⊥
  pub notice_refused : NoticeRefused 4 5 refusal.NoSuchPoint
  pub notice_answered : (why : Refusal) → NoticeRefused 4 4 why → ⊥

-- What `Promised` says of the log.
pub record PromisedSo : Type 0 where
  pub judged : JudgedSo
  pub meant : MeantSo
  pub lasts : LastsSo
  pub queries : RefusedSo
  pub goes_on : GoesOn four
  pub few : length four ≤ 256
  pub roomy : length four ≤ 16

-- What `NeverTakenBack` says of the answers: calls 10 to 13, counted from 0, ask again what calls 4 to 7
-- asked, after one state more.
pub record KeptSo (answers : List (Result Answer Refusal)) : Type 0 where
  pub standings : AnswerIs answers 10 (Stands (Violated 4)) ⊎ PointRefused answers 10
  pub labels : AnswerIs answers 11 (Reads is.True) ⊎ PointRefused answers 11
  pub notices : AnswerIs answers 12 (Tells (Some lost))
  pub tallies : (t : Tally) → AnswerIs answers 13 (Counts t) → NoFewer tally_four t
