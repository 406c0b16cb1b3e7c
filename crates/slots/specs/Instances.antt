-- What is promised of the answers of a live monitor over the slot's rule, on the log of a double free: of each promise one fact.
-- Those of labels that are true or false on every trace that goes on from the log stand in `ForGood`.
use Rattle.std.specs.Prelude.{◌≡◌, ℕ, ◌<◌, ◌≤◌, List, [], ◌∷◌, length, take, Some, None, ◌≢◌}
use Rattle.logic.specs.declared.types.State.{State}
use Rattle.logic.specs.Lawful.{LawfulRecord, ReferenceUnfit}
use Rattle.logic.specs.Logic.{signal}
use Rattle.logic.specs.States.{no_reference}
use Rattle.lawful.specs.Unlawful.{joined, MayFollow}
use Rattle.refusals.specs.declared.Refusal.{Refusal}
use Rattle.refusals.specs.declared.Refusal.TheVariants as refusal
use Rattle.expectations.specs.declared.types.Label.TheVariants.{Unknown, TrueFrom}
use Rattle.expectations.specs.declared.types.Verdict.TheVariants as is
use Rattle.expectations.specs.declared.types.Standing.TheVariants.{Pending, Violated}
use Rattle.expectations.specs.declared.types.Notice.{Notice}
use Rattle.expectations.specs.declared.types.Tally.{Tally}
use Rattle.expectations.specs.Counted.{Counts as CountsTold}
use Rattle.expectations.specs.Laws.{NotBefore, Grown, Before}
use Rattle.answers.specs.declared.types.Call.{Call}
use Rattle.answers.specs.Answers.{Ground, accepted}
use Rattle.answers.specs.Law.{LabelIs, StandingIs, TallyIs, NoticeIs, ToldOnce, NeverTold, HappensAt, Takes}
use Rattle.answers.specs.Refused.{LabelRefused, StandingRefused, TallyRefused, NoticeRefused}
use Rattle.monitor.specs.Book.{ground}
use Rattle.monitor.specs.Meant.{HoldsWeakly, HoldsStrongly, GoesOn}
use Rattle.slots.specs.Slots.{slot_formulas, slot_rule, shown, double_free_log}
use Rattle.slots.specs.ForGood.{slot_content, slot_tally, violation}

-- what a monitor over the slot's table stands on, with a record that has room for 64 states
abbrev pub slots : Ground
slots = ground slot_formulas (slot_rule ∷ []) 64

-- the first n states of the log
abbrev pub log_to : (n : ℕ) → List State
log_to n = take n double_free_log

-- a state with these signals on, no nominal and no references
abbrev pub plain : (signals : ℕ) → State
plain signals = record { signals = signals; nominal = 0; first = no_reference; second = no_reference }

-- a state that refers to state 7, and so to itself where it is the seventh
abbrev pub refers_to_7 : State
refers_to_7 = record { signals = 0; nominal = 0; first = record { kind = 1; target = 7 }; second = no_reference }

-- ── The law of a monitor (`Judged`) ──
pub record LogJudged : Type 0 where
  -- the six states are lawful
  pub lawful : LawfulRecord double_free_log
  -- the state at which the slot is taken again is accepted after states 1 to 3: it may follow them, and there is room for it
  pub takes_what_may_follow : MayFollow (log_to 3) (shown 0) × (3 < 64)
  -- after states 1 to 3 a state with no nominal and no references is taken, whatever signals are on
  pub may_follow_is_taken : (signals : ℕ) → Takes slots (log_to 3) (plain signals)
  -- the label of the content at state 3 is not dated before state 3
  pub dated : NotBefore 3 (slots.labelled double_free_log 4 3)
  -- when state 4 has come, the content at state 1, true from point 2 on, is true from there on as before; at state 3, where it was
  -- unknown, it is unknown or decided from point 4 on
  pub labels_grow : (slots.labelled (log_to 4) 4 1 ≡ TrueFrom 2) × Grown 3 Unknown (slots.labelled (log_to 4) 4 3)
  -- point 3 then reads the content at state 3 as before: unknown
  pub points_stay : LabelIs slots (log_to 4) 4 3 3 is.Unknown
  -- point 4 reads the content at state 1 as point 3 did: true
  pub verdicts_stay : LabelIs slots (log_to 4) 4 1 4 is.True
  -- point 3 tells the standing of state 3 as before: open
  pub standings_stay : StandingIs slots (log_to 4) 0 3 3 Pending
  -- when the slot is freed late, at state 5, the expectation of state 3 is still violated at 4
  pub standings_last : StandingIs slots (log_to 5) 0 3 5 (Violated 4)
  -- the first notice of point 4 is then the violation, as before
  pub notices_stay : NoticeIs slots (log_to 5) 4 0 (Some violation)
  -- of four expectations raised, two fulfilled and one violated, one is open
  pub tallies_sum : (left : ℕ) → TallyIs slots double_free_log 0 (record { raised = 4; pending = left; fulfilled = 2; violated = 1 }) → left ≡ 1
  -- at the points 1 to 6 four raisings are told, two fulfilments and one violation
  pub tallies_told : CountsTold slot_tally (slots.labelled double_free_log) slots.rules 6 0
  -- of the three raised, one fulfilled and one violated after state 4, none is lost when state 5 has come
  pub tallies_grow : (t : Tally) → TallyIs slots (log_to 5) 0 t → (3 ≤ t.raised) × (1 ≤ t.fulfilled) × (1 ≤ t.violated)
  -- the violation is told at point 4 exactly once
  pub notices_once : ToldOnce slots double_free_log violation 4
  -- and at no other point
  pub notices_nowhere_else : (c : ℕ) → 1 ≤ c → c ≤ 6 → c ≢ 4 → NeverTold slots double_free_log violation c
  -- what the first notice of point 4 tells is so
  pub notices_happen : HappensAt slots double_free_log violation 4
  -- wherever the violation is told, that is the first notice of point 4
  pub notices_at_one_point : (c k : ℕ) → NoticeIs slots double_free_log c k (Some violation) → (c ≡ 4) × (k ≡ 0)
  -- each later notice of point 4 stands after the violation in the order of notices
  pub notices_in_order : (k : ℕ) (x : Notice) → 0 < k → NoticeIs slots double_free_log 4 k (Some x) → Before violation x
  -- point 4 has no third notice, and none after it
  pub no_gaps : (k : ℕ) → 2 ≤ k → NoticeIs slots double_free_log 4 k None

-- ── What the answers mean (`Meant`) ──

-- the content of the rule holds weakly, or strongly, at state i of the log as point c reads it
abbrev pub Weakly : (i c : ℕ) → Type 0
Weakly i c = HoldsWeakly double_free_log slot_content i c

abbrev pub Strongly : (i c : ℕ) → Type 0
Strongly i c = HoldsStrongly double_free_log slot_content i c

-- its condition, that the slot is taken, holds strongly at state i as the state's own point reads it
abbrev pub IsTaken : (i : ℕ) → Type 0
IsTaken i = HoldsStrongly double_free_log (signal 0) i i

pub record LogMeant : Type 0 where
  -- the content at state 1 is true at point 2: it holds strongly there
  pub verdict_true : Strongly 1 2
  -- the content at state 3 is unknown at point 3: it holds weakly there, and not strongly
  pub verdict_unknown : Weakly 3 3 × (Strongly 3 3 → ⊥)
  -- and false at point 4: it does not hold weakly there
  pub verdict_false : Weakly 3 4 → ⊥
  -- at point 6 the expectation of state 3 is violated at 4: the condition holds strongly at state 3; the content holds weakly at
  -- point 3, and not at point 4
  pub standing_violated : IsTaken 3 × Weakly 3 3 × (Weakly 3 4 → ⊥)
  -- that of state 1 is fulfilled at 2: the condition holds strongly at state 1; the content holds strongly at point 2, and not at
  -- point 1
  pub standing_fulfilled : IsTaken 1 × Strongly 1 2 × (Strongly 1 1 → ⊥)
  -- that of state 6 is open: the condition holds strongly at state 6; the content holds weakly there, and not strongly
  pub standing_open : IsTaken 6 × Weakly 6 6 × (Strongly 6 6 → ⊥)
  -- at state 2 none is raised: the condition does not hold strongly there
  pub standing_not_raised : IsTaken 2 → ⊥
  -- after the log a state that refers to itself is refused for its reference, which is unfit
  pub appends : ReferenceUnfit (joined double_free_log refers_to_7) 7

-- ── What is answered lasts, whatever calls follow state 4 (`Lasts`) ──

-- the states that are then accepted
abbrev pub then_accepted : List Call → List State
then_accepted cs = accepted slots (log_to 4) cs

pub record LogLasts : Type 0 where
  -- at every point from 4 on the content at state 3 is false
  pub labels : (cs : List Call) (d : ℕ) → 4 ≤ d → d ≤ length (then_accepted cs) → LabelIs slots (then_accepted cs) 4 3 d is.False
  -- at every point from 4 on the expectation of state 3 is violated, at 4
  pub standings : (cs : List Call) (d : ℕ) → 4 ≤ d → d ≤ length (then_accepted cs) → StandingIs slots (then_accepted cs) 0 3 d (Violated 4)
  -- point 3 reads the content at state 3 as unknown, and tells its expectation as open; the first notice of point 4 is the violation
  pub old_labels : (cs : List Call) → LabelIs slots (then_accepted cs) 4 3 3 is.Unknown
  pub old_standings : (cs : List Call) → StandingIs slots (then_accepted cs) 0 3 3 Pending
  pub old_notices : (cs : List Call) → NoticeIs slots (then_accepted cs) 4 0 (Some violation)
  -- of the three raised, one fulfilled and one violated none is ever lost
  pub tallies : (cs : List Call) (t : Tally) → TallyIs slots (then_accepted cs) 0 t → (3 ≤ t.raised) × (1 ≤ t.fulfilled) × (1 ≤ t.violated)

-- ── Why queries are refused (`QueriesRefused`) ──
pub record LogQueries : Type 0 where
  -- the label of the content at state 3 is refused at point 7 for its point: there are six states; at point 4 no refusal fits
  pub label_refused : LabelRefused slots 6 4 3 7 refusal.NoSuchPoint
  pub label_answered : (why : Refusal) → LabelRefused slots 6 4 3 4 why → ⊥
  -- the standing of state 7 is refused for its state; that of state 3 is answered
  pub standing_refused : StandingRefused slots 6 0 7 7 refusal.NoSuchState
  pub standing_answered : (why : Refusal) → StandingRefused slots 6 0 3 4 why → ⊥
  -- a tally of rule 1 is refused for its name: there is one rule, and it has number 0
  pub tally_refused : TallyRefused slots 1 refusal.NoSuchName
  pub tally_answered : (why : Refusal) → TallyRefused slots 0 why → ⊥
  -- a notice of point 7 is refused for its point; those of point 4 are answered, also past the last of them
  pub notice_refused : NoticeRefused 6 7 refusal.NoSuchPoint
  pub notice_answered : (why : Refusal) → NoticeRefused 6 4 why → ⊥

-- ── All of these, and how long the record becomes (`Promised`) ──
pub record Instances : Type 0 where
  pub judged : LogJudged
  pub meant : LogMeant
  pub lasts : LogLasts
  pub queries : LogQueries
  -- some lawful endless trace begins with the log
  pub goes_on : GoesOn double_free_log
  -- whatever calls follow the log, there are at most 256 states, and no more than the 64 that there is room for
  pub few : (cs : List Call) → length (accepted slots double_free_log cs) ≤ 256
  pub roomy : (cs : List Call) → length (accepted slots double_free_log cs) ≤ 64
