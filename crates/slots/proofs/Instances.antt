-- From what is promised of the answers after the first states of the log, one fact of each promise. The answers that a promise
-- starts from are computed; what follows from them is not.
use Rattle.std.proofs.Common.{◌≡◌, ℕ, ◌<◌, zero, suc, ◌+◌, List, [], ◌∷◌, length, get_or, drop, Some, None, Ok, Err, Result, ◌≢◌, sym, refl, ap, ◌∙◌, subst, inl, inr, arith, rules}
use Rattle.logic.specs.declared.types.State.{State}
use Rattle.logic.specs.Lawful.{Unfit}
use Rattle.logic.specs.Logic.{signal}
use Rattle.logic.specs.States.{no_reference, blank}
use Rattle.logic.specs.Tables.{tree, tree_to, loose}
use Rattle.lawful.specs.Unlawful.{MayFollow}
use Rattle.dating.specs.Dated.{true_from, false_from}
use Rattle.dating.specs.Labels.{until_from, label}
use Rattle.refusals.specs.declared.Refusal.{Refusal}
use Rattle.refusals.specs.declared.Refusal.TheVariants as refusal
use Rattle.expectations.specs.declared.types.Label.{Label}
use Rattle.expectations.specs.declared.types.Label.TheVariants.{Unknown, TrueFrom, FalseFrom}
use Rattle.expectations.specs.declared.types.Verdict.TheVariants as is
use Rattle.expectations.specs.declared.types.Standing.{Standing}
use Rattle.expectations.specs.declared.types.Standing.TheVariants.{NotRaised, Pending, Fulfilled, Violated}
use Rattle.expectations.specs.Laws.{Grown}
use Rattle.growth.specs.Growth.{labels_of}
use Rattle.answers.specs.declared.types.Answer.{Answer}
use Rattle.answers.specs.declared.types.Answer.TheVariants.{Stands}
use Rattle.answers.specs.declared.types.Call.{Call}
use Rattle.answers.specs.declared.types.Call.TheVariants.{Append, LabelAt, StandingAt}
use Rattle.answers.specs.Tests.{carried_to}
use Rattle.answers.specs.Answers.{Ground, as_answer, told, after, accepted}
use Rattle.answers.specs.Law.{LabelIs, StandingIs, TallyIs, NoticeIs, HappensAt, Takes, Ran}
use Rattle.monitor.specs.Meant.{HoldsStrongly, HoldsWeakly, Expects}
use Rattle.monitor.specs.Promises.{Promised}
use Rattle.slots.specs.Slots.{slot_formulas, shown, double_free_log}
use Rattle.slots.specs.ForGood.{slot_content, slot_tally, violation}
use Rattle.slots.specs.Instances.{slots, log_to, plain, refers_to_7, LogJudged, LogMeant, LogLasts, LogQueries, Instances}

pub content_is : tree slot_formulas 4 ≡ slot_content
unfolding tree tree_to
content_is = refl

condition_is : tree slot_formulas 0 ≡ signal 0
unfolding tree tree_to
condition_is = refl

-- ── What is told ──
take_taken : Takes slots (log_to 3) (shown 0)
unfolding carried_to
take_taken = refl

free_taken : Takes slots (log_to 4) (shown 1)
unfolding carried_to
free_taken = refl

self_refused : told slots double_free_log (Append refers_to_7) ≡ Err (refusal.ReferenceUnfit 7)
unfolding carried_to
self_refused = refl

unknown_at_3 : LabelIs slots (log_to 3) 4 3 3 is.Unknown
unfolding labels_of label until_from true_from false_from tree tree_to loose
unknown_at_3 = refl

true_at_3 : LabelIs slots (log_to 3) 4 1 3 is.True
unfolding labels_of label until_from true_from false_from tree tree_to loose
true_at_3 = refl

true_from_2 : slots.labelled (log_to 3) 4 1 ≡ TrueFrom 2
unfolding labels_of label until_from true_from false_from tree tree_to loose
true_from_2 = refl

no_label_at_3 : slots.labelled (log_to 3) 4 3 ≡ Unknown
unfolding labels_of label until_from true_from false_from tree tree_to loose
no_label_at_3 = refl

open_at_3 : StandingIs slots (log_to 3) 0 3 3 Pending
unfolding labels_of label until_from true_from false_from tree tree_to loose
open_at_3 = refl

unknown_before_4 : LabelIs slots (log_to 4) 4 3 3 is.Unknown
unfolding labels_of label until_from true_from false_from tree tree_to loose
unknown_before_4 = refl

false_at_4 : LabelIs slots (log_to 4) 4 3 4 is.False
unfolding labels_of label until_from true_from false_from tree tree_to loose
false_at_4 = refl

open_before_4 : StandingIs slots (log_to 4) 0 3 3 Pending
unfolding labels_of label until_from true_from false_from tree tree_to loose
open_before_4 = refl

violated_at_4 : StandingIs slots (log_to 4) 0 3 4 (Violated 4)
unfolding labels_of label until_from true_from false_from tree tree_to loose
violated_at_4 = refl

violation_at_4 : NoticeIs slots (log_to 4) 4 0 (Some violation)
unfolding labels_of label until_from true_from false_from tree tree_to loose
violation_at_4 = refl

tally_at_4 : TallyIs slots (log_to 4) 0 (record { raised = 3; pending = 1; fulfilled = 1; violated = 1 })
unfolding labels_of label until_from true_from false_from tree tree_to loose
tally_at_4 = refl

-- after the whole log
pub true_in_log : LabelIs slots double_free_log 4 1 2 is.True
unfolding labels_of label until_from true_from false_from tree tree_to loose
true_in_log = refl

unknown_in_log : LabelIs slots double_free_log 4 3 3 is.Unknown
unfolding labels_of label until_from true_from false_from tree tree_to loose
unknown_in_log = refl

pub false_in_log : LabelIs slots double_free_log 4 3 4 is.False
unfolding labels_of label until_from true_from false_from tree tree_to loose
false_in_log = refl

violated_in_log : StandingIs slots double_free_log 0 3 4 (Violated 4)
unfolding labels_of label until_from true_from false_from tree tree_to loose
violated_in_log = refl

fulfilled_at_6 : StandingIs slots double_free_log 0 1 6 (Fulfilled 2)
unfolding labels_of label until_from true_from false_from tree tree_to loose
fulfilled_at_6 = refl

open_at_6 : StandingIs slots double_free_log 0 6 6 Pending
unfolding labels_of label until_from true_from false_from tree tree_to loose
open_at_6 = refl

not_raised_at_6 : StandingIs slots double_free_log 0 2 6 NotRaised
unfolding labels_of label until_from true_from false_from tree tree_to loose
not_raised_at_6 = refl

pub violated_at_6 : StandingIs slots double_free_log 0 3 6 (Violated 4)
unfolding labels_of label until_from true_from false_from tree tree_to loose
violated_at_6 = refl

tally_in_log : TallyIs slots double_free_log 0 slot_tally
unfolding labels_of label until_from true_from false_from tree tree_to loose
tally_in_log = refl

violation_in_log : NoticeIs slots double_free_log 4 0 (Some violation)
unfolding labels_of label until_from true_from false_from tree tree_to loose
violation_in_log = refl

no_third : NoticeIs slots double_free_log 4 2 None
unfolding labels_of label until_from true_from false_from tree tree_to loose
no_third = refl

no_point_7 : told slots double_free_log (LabelAt 4 3 7) ≡ Err refusal.NoSuchPoint
unfolding loose tree tree_to
no_point_7 = refl

-- ── A state with no nominal and no references may follow ──
none_fits : (i : ℕ) → Unfit no_reference i → ⊥
none_fits i h = grind (arith, h)

plain_follows : (signals : ℕ) → MayFollow (log_to 3) (plain signals)
plain_follows signals = (omega arith, (λ h. absurd (omega (arith, h.0)), λ h. elim h [ inl a ↦ none_fits 4 a | inr b ↦ none_fits 4 b ]))

-- a label that is false from two points on is so from one
one_date : (l : Label) (c d : ℕ) → l ≡ FalseFrom c → l ≡ FalseFrom d → c ≡ d
one_date l c d p q = let e : FalseFrom c ≡ FalseFrom d = sym p ∙ q in cc

module _ (three : Promised slots (log_to 3)) (four : Promised slots (log_to 4)) (six : Promised slots double_free_log) where
  happens : HappensAt slots double_free_log violation 4
  happens = six.judged.notices_happen 4 0 violation violation_in_log

  elsewhere : (c : ℕ) → c ≢ 4 → HappensAt slots double_free_log violation c → ⊥
  elsewhere c other h = other (one_date (slots.labelled double_free_log 4 3) c 4 h.4 happens.4)

  law : LogJudged
  law = record {
    lawful = six.judged.lawful;
    takes_what_may_follow = three.judged.takes_what_may_follow (shown 0) take_taken;
    may_follow_is_taken = λ signals. three.judged.may_follow_is_taken (plain signals) (plain_follows signals) (omega arith);
    dated = six.judged.dated 4 3 (omega arith) (omega arith);
    labels_grow = (
      subst (λ l. Grown 3 l (slots.labelled (log_to 4) 4 1)) true_from_2 (three.judged.labels_grow (shown 0) take_taken 4 1 (omega arith) (omega arith)),
      subst (λ l. Grown 3 l (slots.labelled (log_to 4) 4 3)) no_label_at_3 (three.judged.labels_grow (shown 0) take_taken 4 3 (omega arith) (omega arith)),
    );
    points_stay = three.judged.points_stay (shown 0) take_taken 4 3 3 is.Unknown unknown_at_3;
    verdicts_stay = three.judged.verdicts_stay (shown 0) take_taken 4 1 3 is.True true_at_3 (λ e. grind (rules, e));
    standings_stay = three.judged.standings_stay (shown 0) take_taken 0 3 3 (omega arith) (omega arith) (omega arith) ∙ open_at_3;
    standings_last = four.judged.standings_last (shown 1) free_taken 0 3 4 (Violated 4) violated_at_4 (λ e. grind (rules, e));
    notices_stay = four.judged.notices_stay (shown 1) free_taken 4 0 (omega arith) (omega arith) ∙ violation_at_4;
    tallies_sum = λ left h. let e = six.judged.tallies_sum 0 (record { raised = 4; pending = left; fulfilled = 2; violated = 1 }) h in omega (arith, e);
    tallies_told = six.judged.tallies_told 0 slot_tally tally_in_log;
    tallies_grow = λ t h. four.judged.tallies_grow (shown 1) free_taken 0 (record { raised = 3; pending = 1; fulfilled = 1; violated = 1 }) t tally_at_4 h;
    notices_once = (six.judged.notices_once violation 4 (omega arith) (omega arith)).0 happens;
    notices_nowhere_else = λ c low high other. (six.judged.notices_once violation c low high).1 (elsewhere c other);
    notices_happen = happens;
    notices_at_one_point = λ c k h. six.judged.notices_at_one_point c 4 k 0 violation h violation_in_log;
    notices_in_order = λ k x later h. six.judged.notices_in_order 4 0 k violation x later violation_in_log h;
    no_gaps = λ k high. six.judged.no_gaps 4 2 k high no_third;
  }

  meaning : LogMeant
  meaning =
      let stands : (i c : ℕ) (s : Standing) → StandingIs slots double_free_log 0 i c s → Expects double_free_log (signal 0) slot_content i c s = λ i c s h.
      subst (λ φ. Expects double_free_log (signal 0) φ i c s) content_is (subst (λ φ. Expects double_free_log φ (slots.trees 4) i c s) condition_is (six.meant.standings 0 i c s h)) in
      let violated = stands 3 6 (Violated 4) violated_at_6 in
      let fulfilled = stands 1 6 (Fulfilled 2) fulfilled_at_6 in
      record {
        verdict_true = subst (λ φ. HoldsStrongly double_free_log φ 1 2) content_is ((six.meant.verdicts 4 1 2 is.True true_in_log).when_true.0 refl);
        verdict_unknown =
            subst (λ φ. HoldsWeakly double_free_log φ 3 3 × (HoldsStrongly double_free_log φ 3 3 → ⊥)) content_is
            ((six.meant.verdicts 4 3 3 is.Unknown unknown_in_log).when_unknown.0 refl);
        verdict_false = subst (λ φ. HoldsWeakly double_free_log φ 3 4 → ⊥) content_is ((six.meant.verdicts 4 3 4 is.False false_in_log).when_false.0 refl);
        standing_violated = (violated.0, violated.4 3 (omega arith) (omega arith), violated.3);
        standing_fulfilled = (fulfilled.0, fulfilled.3, fulfilled.4 1 (omega arith) (omega arith));
        standing_open = stands 6 6 Pending open_at_6;
        standing_not_raised = stands 2 6 NotRaised not_raised_at_6;
        appends = (six.meant.appends refers_to_7 (refusal.ReferenceUnfit 7) self_refused).1.3;
      }

  lasting : LogLasts
  lasting = record {
    labels = λ cs d. four.lasts.labels cs 4 3 4 d is.False false_at_4 (λ e. grind (rules, e));
    standings = λ cs d. four.lasts.standings cs 0 3 4 d (Violated 4) violated_at_4 (λ e. grind (rules, e));
    old_labels = λ cs. four.lasts.old_labels cs 4 3 3 is.Unknown unknown_before_4;
    old_standings = λ cs. four.lasts.old_standings cs 0 3 3 Pending open_before_4;
    old_notices = λ cs. four.lasts.old_notices cs 4 0 (Some violation) violation_at_4;
    tallies = λ cs t h. four.lasts.tallies cs 0 (record { raised = 3; pending = 1; fulfilled = 1; violated = 1 }) t tally_at_4 h;
  }

  refusing : LogQueries
  refusing = record {
    label_refused = six.queries.label_refused 4 3 7 refusal.NoSuchPoint no_point_7;
    label_answered = six.queries.label_answered 4 3 4 _ false_in_log;
    standing_refused = six.queries.standing_refused 0 7 7 refusal.NoSuchState refl;
    standing_answered = six.queries.standing_answered 0 3 4 _ violated_in_log;
    tally_refused = six.queries.tally_refused 1 refusal.NoSuchName refl;
    tally_answered = six.queries.tally_answered 0 _ tally_in_log;
    notice_refused = six.queries.notice_refused 7 0 refusal.NoSuchPoint refl;
    notice_answered = six.queries.notice_answered 4 2 _ no_third;
  }

  pub instances : ((cs : List Call) → Promised slots (accepted slots double_free_log cs)) → Instances
  instances later = record {
    judged = law;
    meant = meaning;
    lasts = lasting;
    queries = refusing;
    goes_on = six.goes_on;
    few = λ cs. (later cs).few;
    roomy = λ cs. (later cs).roomy;
  }

-- ── A list of calls that brings the first three states, and what the live monitor then promises ──
abbrev pub first_calls : List Call
first_calls = Append (shown 0) ∷ Append (shown 1) ∷ Append (shown 0) ∷ []

three_accepted : accepted slots [] first_calls ≡ log_to 3
unfolding carried_to
three_accepted = refl

-- all six
abbrev pub log_calls : List Call
log_calls = Append (shown 0) ∷ Append (shown 1) ∷ Append (shown 0) ∷ Append (shown 0) ∷ Append (shown 1) ∷ Append (shown 0) ∷ []

six_accepted : accepted slots [] log_calls ≡ double_free_log
unfolding carried_to
six_accepted = refl

four_accepted : accepted slots (log_to 3) (Append (shown 0) ∷ []) ≡ log_to 4
unfolding carried_to
four_accepted = refl

-- what a list of calls on a new monitor over the slot's table brings
brought : (cs : List Call) (xs : List State) → accepted slots [] cs ≡ xs → (G : Ground) (start : List State) (calls : List Call) (answers : List (Result Answer Refusal)) (ends : List State) →
    G ≡ slots → start ≡ [] → calls ≡ cs → Ran G start calls answers ends → ends ≡ xs
brought cs xs brings G start calls answers ends is-slots empty same ran =
    (ran.own_record (ap length empty)).0 ∙ ap (λ H. accepted H [] calls) is-slots ∙ ap (accepted slots []) same ∙ brings

pub first_three : (G : Ground) (start : List State) (calls : List Call) (answers : List (Result Answer Refusal)) (ends : List State) →
    G ≡ slots → start ≡ [] → calls ≡ first_calls → Ran G start calls answers ends → ends ≡ log_to 3
first_three = brought first_calls (log_to 3) three_accepted

pub all_six : (G : Ground) (start : List State) (calls : List Call) (answers : List (Result Answer Refusal)) (ends : List State) →
    G ≡ slots → start ≡ [] → calls ≡ log_calls → Ran G start calls answers ends → ends ≡ double_free_log
all_six = brought log_calls double_free_log six_accepted

-- the next three states, one by one
pub next_state : (k : ℕ) → k < 3 → after slots (log_to (3 + k)) (Append (get_or (drop 3 double_free_log) k blank)) ≡ log_to (3 + (k + 1))
unfolding carried_to
next_state zero h = refl
next_state (suc zero) h = refl
next_state (suc (suc zero)) h = refl
next_state (suc (suc (suc k))) h = absurd (omega arith)

pub promised_here : (G : Ground) (xs ys : List State) → G ≡ slots → xs ≡ ys → Promised G xs → Promised slots ys
promised_here G xs ys is-slots same p = subst (Promised slots) same (subst (λ H. Promised H xs) is-slots p)

pub promised_then : (G : Ground) (xs ys : List State) → G ≡ slots → xs ≡ ys → ((cs : List Call) → Promised G (accepted G xs cs)) →
    (cs : List Call) → Promised slots (accepted slots ys cs)
promised_then G xs ys is-slots same p =
    subst (λ zs. (cs : List Call) → Promised slots (accepted slots zs cs)) same (subst (λ H. (cs : List Call) → Promised H (accepted H xs cs)) is-slots p)

pub promised_at_4 : ((cs : List Call) → Promised slots (accepted slots (log_to 3) cs)) → Promised slots (log_to 4)
promised_at_4 p = subst (Promised slots) four_accepted (p (Append (shown 0) ∷ []))

-- ── The standing that a live monitor answers ──
stands : (r : Result Standing Refusal) (s : Standing) → as_answer Stands r ≡ Ok (Stands s) → r ≡ Ok s
stands (Ok t) s e = grind (rules, e)
stands (Err why) s e = grind (rules, e)

pub stands_violated : (G : Ground) (xs : List State) (r : Result Standing Refusal) (reply : Result Answer Refusal) → G ≡ slots → xs ≡ double_free_log →
    as_answer Stands r ≡ reply → reply ≡ told G xs (StandingAt 0 3 6) → r ≡ Ok (Violated 4)
stands_violated G xs r reply is-slots same answered told-so =
    stands r (Violated 4)
    (answered ∙ told-so ∙ ap (λ H. told H xs (StandingAt 0 3 6)) is-slots ∙ ap (λ ys. told slots ys (StandingAt 0 3 6)) same ∙ violated_at_6)
