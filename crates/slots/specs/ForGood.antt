-- What a monitor answers about the log of a double free, and what that says of every log that goes on from it.
use Rattle.std.specs.Prelude.{ℕ, ◌<◌, ◌≤◌, ◌⊎◌, List, [], ◌∷◌, Some, None, Ok, Result}
use Rattle.answers.specs.declared.types.Answer.{Answer}
use Rattle.answers.specs.declared.types.Answer.TheVariants.{Number, Reads, Stands, Counts, Tells}
use Rattle.answers.specs.declared.types.Call.{Call}
use Rattle.answers.specs.declared.types.Call.TheVariants.{Append, LabelAt, StandingAt, TallyOf, NoticeOf}
use Rattle.answers.specs.Lasting.{CallIs, AnswerIs, PointRefused}
use Rattle.expectations.specs.declared.types.Notice.{Notice}
use Rattle.expectations.specs.declared.types.Standing.TheVariants.{Violated}
use Rattle.expectations.specs.declared.types.Tally.{Tally}
use Rattle.expectations.specs.declared.types.Verdict.TheVariants as is
use Rattle.expectations.specs.declared.types.Event.TheVariants.{Raising, Violating}
use Rattle.expectations.specs.Counted.{NoFewer}
use Rattle.logic.specs.Lawful.{Lawful}
use Rattle.logic.specs.Logic.{Tree, signal, not', next, until, Shows, Holds}
use Rattle.logic.specs.States.{Trace, Begins}
use Rattle.refusals.specs.declared.Refusal.{Refusal}
use Rattle.slots.specs.Slots.{shown, double_free_log}

-- The first four states of the log are appended, and the label of the rule's content at state 3 is asked as point 4 reads it, the
-- first notice of point 4, and the standing of state 3 there. Then state 5, and the standing at point 5. Then state 6, and the
-- label of the content at state 1 as point 2 reads it and at state 3 as point 6 does; the rule's tally, the notices of point 4
-- until there is none, and the standing of state 3 at point 6.
abbrev pub slot_calls : List Call
slot_calls =
    Append (shown 0) ∷ Append (shown 1) ∷ Append (shown 0) ∷ Append (shown 0) ∷ LabelAt 4 3 4 ∷ NoticeOf 4 0 ∷ StandingAt 0 3 4
    ∷ Append (shown 1) ∷ StandingAt 0 3 5
    ∷ Append (shown 0) ∷ LabelAt 4 1 2 ∷ LabelAt 4 3 6 ∷ TallyOf 0 ∷ NoticeOf 4 0 ∷ NoticeOf 4 1 ∷ NoticeOf 4 2 ∷ StandingAt 0 3 6 ∷ []

-- what is told at point 4: the expectation of state 3 is violated, and that of state 4 is raised
abbrev pub violation : Notice
violation = record { rule = 0; from = 3; event = Violating }

abbrev pub raised_again : Notice
raised_again = record { rule = 0; from = 4; event = Raising }

-- of four expectations two are fulfilled, one is violated and one open
abbrev pub slot_tally : Tally
slot_tally = record { raised = 4; pending = 1; fulfilled = 2; violated = 1 }

-- the slot of state 1 is freed at state 2, and that of state 3 is taken again at state 4, which nothing later changes
abbrev pub slot_answers : List (Result Answer Refusal)
slot_answers =
    Ok (Number 1) ∷ Ok (Number 2) ∷ Ok (Number 3) ∷ Ok (Number 4) ∷ Ok (Reads is.False) ∷ Ok (Tells (Some violation)) ∷ Ok (Stands (Violated 4))
    ∷ Ok (Number 5) ∷ Ok (Stands (Violated 4))
    ∷ Ok (Number 6) ∷ Ok (Reads is.True) ∷ Ok (Reads is.False) ∷ Ok (Counts slot_tally)
    ∷ Ok (Tells (Some violation)) ∷ Ok (Tells (Some raised_again)) ∷ Ok (Tells None) ∷ Ok (Stands (Violated 4)) ∷ []

-- the content of the slot's rule
abbrev pub slot_content : Tree
slot_content = next (until (not' (signal 0)) (signal 1))

-- after state i the slot is freed, and not taken before that
abbrev pub FreedInTime : Trace → (i : ℕ) → Type 0
FreedInTime u i = (k : ℕ) × (i < k) × Shows (u k) 1 × ((j : ℕ) → i < j → j < k → Shows (u j) 0 → ⊥)

-- What holds of all lawful endless traces that begin with the log, of which there are some: the slot of state 1 is freed in
-- time, and that of state 3 is not, whatever comes later.
pub record ForGood : Type 0 where
  pub goes_on : (u : Trace) × Lawful u × Begins double_free_log u
  pub content_true : (u : Trace) → Lawful u → Begins double_free_log u → (v : ℕ) → Holds u v 1 slot_content
  pub content_false : (u : Trace) → Lawful u → Begins double_free_log u → (v : ℕ) → Holds u v 3 slot_content → ⊥
  pub freed : (u : Trace) → Lawful u → Begins double_free_log u → FreedInTime u 1
  pub never_freed : (u : Trace) → Lawful u → Begins double_free_log u → FreedInTime u 3 → ⊥
  -- that the slot of state 1 is freed in time is known after two states already: it is so on all traces that begin with these
  pub freed_soon : (u : Trace) → Lawful u → Begins (shown 0 ∷ shown 1 ∷ []) u → FreedInTime u 1

-- call k of the list was answered so, or refused for its point
abbrev pub ToldOrRefused : (k : ℕ) → Answer → Type 0
ToldOrRefused k a = AnswerIs slot_answers k a ⊎ PointRefused slot_answers k

-- What follows of the list of calls and its answers: of the later asks (k) for what was answered at point 4, none takes it back.
pub record NoneTakenBack : Type 0 where
  -- each later ask for the standing of state 3, at point 4 or after it, tells the same violation, or is refused for its point
  pub standings : (k d : ℕ) → 6 ≤ k → 4 ≤ d → CallIs slot_calls k (StandingAt 0 3 d) → ToldOrRefused k (Stands (Violated 4))
  -- each later ask for the label of the content at state 3 reads false, or is refused for its point
  pub labels : (k d : ℕ) → 4 ≤ k → 4 ≤ d → CallIs slot_calls k (LabelAt 4 3 d) → ToldOrRefused k (Reads is.False)
  -- each later ask for the first notice of point 4 tells the violation
  pub notices : (k : ℕ) → 5 ≤ k → CallIs slot_calls k (NoticeOf 4 0) → AnswerIs slot_answers k (Tells (Some violation))
  -- each later ask for the tally counts no fewer as raised, fulfilled and violated
  pub tallies : (k : ℕ) (t : Tally) → 12 ≤ k → CallIs slot_calls k (TallyOf 0) → AnswerIs slot_answers k (Counts t) → NoFewer slot_tally t
