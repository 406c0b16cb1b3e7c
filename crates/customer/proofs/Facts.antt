-- The facts of the small log, each from the clause of the law that it is named by.
use Rattle.std.proofs.Common.{◌≡◌, ℕ, zero, suc, ◌<◌, ◌≤◌, List, [], ◌∷◌, length, get_or, take, Some, None, Ok, Err, Result, sym, refl, ap, ap₂, ◌∙◌, subst, arith, length-append}
use Rattle.std.proofs.lemmas.List.{ext_get_or}
use Rattle.logic.specs.declared.types.Formula.{Formula}
use Rattle.logic.specs.declared.types.Rule.{Rule}
use Rattle.logic.specs.declared.types.State.{State}
use Rattle.logic.specs.States.{blank}
use Rattle.logic.specs.Logic.{Holds, signal}
use Rattle.logic.specs.Tables.{tree, tree_to, loose}
use Rattle.dating.specs.Dated.{true_from, false_from}
use Rattle.dating.specs.Labels.{label}
use Rattle.refusals.specs.declared.Refusal.{Refusal}
use Rattle.refusals.specs.declared.Refusal.TheVariants as refusal
use Rattle.expectations.specs.declared.types.Label.TheVariants.{TrueFrom, FalseFrom}
use Rattle.expectations.specs.declared.types.Verdict.TheVariants as is
use Rattle.expectations.specs.declared.types.Standing.TheVariants.{Pending, Violated}
use Rattle.growth.specs.Growth.{labels_of}
use Rattle.records.specs.Growth.{Appended}
use Rattle.answers.specs.declared.types.Answer.{Answer}
use Rattle.answers.specs.declared.types.Answer.TheVariants.{Reads, Stands, Counts, Tells}
use Rattle.answers.specs.declared.types.Call.{Call}
use Rattle.answers.specs.declared.types.Call.TheVariants.{Append, LabelAt, StandingAt, TallyOf, NoticeOf}
use Rattle.answers.specs.Tests.{carried_to}
use Rattle.answers.specs.Answers.{Ground, told, after, accepted}
use Rattle.answers.specs.Law.{foreign, Ran, Judged, Takes, LabelIs, StandingIs, TallyIs, NoticeIs, HappensAt}
use Rattle.answers.specs.Lasting.{Lasts, CallIs, NeverTakenBack}
use Rattle.answers.specs.Refused.{QueriesRefused}
use Rattle.monitor.specs.Book.{ground}
use Rattle.monitor.specs.Meant.{Meant, HoldsWeakly, HoldsStrongly, Expects}
use Rattle.monitor.specs.Promises.{Promised}
use Rattle.customer.specs.Slot.{slot_formulas, slot_rule}
use Rattle.customer.specs.Tried.{freed, named, two, four, five, slots, is_freed_next, tried_calls, lost, raised, not_lost, tally_four, tally_five, tried_answers, held_answers, JudgedSo, MeantSo, LastsSo, RefusedSo, PromisedSo, KeptSo}

-- ── What is told ──
takes_named : Takes slots two named
unfolding carried_to
takes_named = refl

takes_freed : Takes slots four freed
unfolding carried_to
takes_freed = refl

named_twice : told slots four (Append named) ≡ Err (refusal.NominalTaken 5)
unfolding carried_to
named_twice = refl

content_is : tree slot_formulas 2 ≡ is_freed_next
unfolding tree tree_to
content_is = refl

condition_is : tree slot_formulas 0 ≡ signal 0
unfolding tree tree_to
condition_is = refl

true_at_two : LabelIs slots four 2 1 2 is.True
unfolding labels_of label true_from false_from tree tree_to loose
true_at_two = refl

false_at_four : LabelIs slots four 2 3 4 is.False
unfolding labels_of label true_from false_from tree tree_to loose
false_at_four = refl

unknown_at_four : LabelIs slots four 2 4 4 is.Unknown
unfolding labels_of label true_from false_from tree tree_to loose
unknown_at_four = refl

true_label : slots.labelled four 2 1 ≡ TrueFrom 2
unfolding labels_of label true_from false_from tree tree_to
true_label = refl

stands_open : StandingIs slots four 0 4 4 Pending
unfolding labels_of label true_from false_from tree tree_to
stands_open = refl

stands_lost : StandingIs slots four 0 3 4 (Violated 4)
unfolding labels_of label true_from false_from tree tree_to
stands_lost = refl

tells_lost : NoticeIs slots four 4 0 (Some lost)
unfolding labels_of label true_from false_from tree tree_to
tells_lost = refl

tells_raised : NoticeIs slots four 4 1 (Some raised)
unfolding labels_of label true_from false_from tree tree_to
tells_raised = refl

tells_no_more : NoticeIs slots four 4 2 None
unfolding labels_of label true_from false_from tree tree_to
tells_no_more = refl

counts_four : TallyIs slots four 0 tally_four
unfolding labels_of label true_from false_from tree tree_to
counts_four = refl

counts_five : TallyIs slots five 0 tally_five
unfolding labels_of label true_from false_from tree tree_to
counts_five = refl

-- the content of state 1 is not false from point 4
happens_not : HappensAt slots four not_lost 4 → ⊥
happens_not (a, b, c, d, e) = let f : TrueFrom 2 ≡ FalseFrom 4 = sym true_label ∙ e in cc

-- ── What the law says ──
judged_so : Judged slots two → Judged slots four → JudgedSo
judged_so early law =
    let follows = early.takes_what_may_follow named takes_named in
    record {
      lawful = law.lawful;
      takes_what_may_follow = follows;
      may_follow_is_taken = early.may_follow_is_taken named follows.0 follows.1;
      true_is_so = λ u l b v. subst (Holds u v 1) content_is (law.true_is_so 2 1 2 true_at_two u l b v);
      false_is_not = λ u l b v h. law.false_is_not 2 3 4 false_at_four u l b v (subst (Holds u v 3) (sym content_is) h);
      dated = law.dated 2 3 (omega arith) (omega arith);
      labels_grow = rw true_label at (law.labels_grow freed takes_freed 2 1 (omega arith) (omega arith));
      points_stay = law.points_stay freed takes_freed 2 1 2 is.True true_at_two;
      verdicts_stay = law.verdicts_stay freed takes_freed 2 1 2 is.True true_at_two (λ e. cc);
      standings_stay = law.standings_stay freed takes_freed 0 4 4 (omega arith) (omega arith) (omega arith) ∙ stands_open;
      standings_last = law.standings_last freed takes_freed 0 3 4 (Violated 4) stands_lost (λ e. cc);
      notices_stay = law.notices_stay freed takes_freed 4 0 (omega arith) (omega arith) ∙ tells_lost;
      tallies_sum = λ left h. let e = law.tallies_sum 0 (record { raised = 3; pending = left; fulfilled = 1; violated = 1 }) h in omega (arith, e);
      tallies_told = let n = law.tallies_told 0 tally_four counts_four in (sym n.0, sym n.1, sym n.2);
      tallies_grow = λ t h. law.tallies_grow freed takes_freed 0 tally_four t counts_four h;
      notices_once = (law.notices_once lost 4 (omega arith) (omega arith)).0 (law.notices_happen 4 0 lost tells_lost);
      notices_never = (law.notices_once not_lost 4 (omega arith) (omega arith)).1 happens_not;
      notices_happen = law.notices_happen 4 0 lost tells_lost;
      notices_at_one_point = λ d k e. law.notices_at_one_point 4 d 0 k lost tells_lost e;
      notices_in_order = law.notices_in_order 4 0 1 lost raised (omega arith) tells_lost tells_raised;
      no_gaps = law.no_gaps 4 2 9 (omega arith) tells_no_more;
    }

meant_so : Meant slots four → MeantSo
meant_so law =
    let right = law.verdicts 2 1 2 is.True true_at_two in
    let wrong = law.verdicts 2 3 4 is.False false_at_four in
    let stands = law.standings 0 3 4 (Violated 4) stands_lost in
    record {
      verdicts = subst (λ φ. HoldsStrongly four φ 1 2) content_is (right.when_true.0 refl);
      refuted = subst (λ φ. HoldsWeakly four φ 3 4 → ⊥) content_is (wrong.when_false.0 refl);
      standings = subst (λ φ. Expects four (signal 0) φ 3 4 (Violated 4)) content_is (subst (λ φ. Expects four φ (tree slot_formulas 2) 3 4 (Violated 4)) condition_is stands);
      appends = (law.appends named (refusal.NominalTaken 5) named_twice).1;
    }

all_five : accepted slots four (Append freed ∷ []) ≡ five
unfolding carried_to
all_five = refl

lasts_so : Lasts slots four → LastsSo
lasts_so law =
    let cs = Append freed ∷ [] in
    let so_far : 5 ≤ length (accepted slots four cs) = subst (λ ys. 5 ≤ length ys) (sym all_five) (omega arith) in
    record {
      labels = subst (λ ys. LabelIs slots ys 2 1 5 is.True) all_five (law.labels cs 2 1 2 5 is.True true_at_two (λ e. cc) (omega arith) so_far);
      standings = subst (λ ys. StandingIs slots ys 0 3 5 (Violated 4)) all_five (law.standings cs 0 3 4 5 (Violated 4) stands_lost (λ e. cc) (omega arith) so_far);
      old_labels = subst (λ ys. LabelIs slots ys 2 4 4 is.Unknown) all_five (law.old_labels cs 2 4 4 is.Unknown unknown_at_four);
      old_standings = subst (λ ys. StandingIs slots ys 0 4 4 Pending) all_five (law.old_standings cs 0 4 4 Pending stands_open);
      old_notices = subst (λ ys. NoticeIs slots ys 4 2 None) all_five (law.old_notices cs 4 2 None tells_no_more);
      tallies = λ t h. law.tallies cs 0 tally_four t counts_four (subst (λ ys. TallyIs slots ys 0 t) (sym all_five) h);
    }

refused_so : QueriesRefused slots four → RefusedSo
refused_so law =
    record {
      label_refused = law.label_refused 3 1 1 refusal.NoSuchName refl;
      label_answered = law.label_answered 2 1 2 (Reads is.True) true_at_two;
      standing_refused = law.standing_refused 0 1 5 refusal.NoSuchPoint refl;
      standing_answered = law.standing_answered 0 3 4 (Stands (Violated 4)) stands_lost;
      tally_refused = law.tally_refused 1 refusal.NoSuchName refl;
      tally_answered = law.tally_answered 0 (Counts tally_four) counts_four;
      notice_refused = law.notice_refused 5 0 refusal.NoSuchPoint refl;
      notice_answered = law.notice_answered 4 0 (Tells (Some lost)) tells_lost;
    }

all_two : accepted slots [] (take 2 tried_calls) ≡ two
unfolding carried_to
all_two = refl

all_four : accepted slots [] (take 4 tried_calls) ≡ four
unfolding carried_to
all_four = refl

pub promised_so : (G : Ground) (start : List State) → G ≡ slots → start ≡ [] → ((cs : List Call) → Promised G (accepted G start cs)) → PromisedSo
promised_so G start is-slots empty later =
    let laws : (cs : List Call) → Promised slots (accepted slots [] cs) =
    λ cs. subst (λ H. Promised H (accepted H [] cs)) is-slots (subst (λ ys. Promised G (accepted G ys cs)) empty (later cs)) in
    let early : Promised slots two = subst (Promised slots) all_two (laws (take 2 tried_calls)) in
    let law : Promised slots four = subst (Promised slots) all_four (laws (take 4 tried_calls)) in
    record {
      judged = judged_so early.judged law.judged;
      meant = meant_so law.meant;
      lasts = lasts_so law.lasts;
      queries = refused_so law.queries;
      goes_on = law.goes_on;
      few = law.few;
      roomy = law.roomy;
    }

pub slots_are : (formulas : List Formula) (rules : List Rule) → formulas ≡ slot_formulas → rules ≡ slot_rule ∷ [] → ground formulas rules 16 ≡ slots
slots_are formulas rules f r = ap₂ (λ fs rs. ground fs rs 16) f r

-- ── The answers to a list of calls, one after another ──
abbrev tolds : Ground → List State → List Call → List (Result Answer Refusal)
tolds G xs [] = []
tolds G xs (c ∷ cs) = told G xs c ∷ tolds G (after G xs c) cs

told_at : (G : Ground) (xs : List State) (cs : List Call) (k : ℕ) → k < length cs →
    told G (accepted G xs (take k cs)) (get_or cs k (Append blank)) ≡ get_or (tolds G xs cs) k foreign
told_at G xs [] k h = absurd (omega arith)
told_at G xs (c ∷ cs) zero h = refl
told_at G xs (c ∷ cs) (suc k) h = told_at G (after G xs c) cs k (omega arith)

all_told : tolds slots [] tried_calls ≡ tried_answers
unfolding carried_to labels_of label true_from false_from tree tree_to loose
all_told = refl

pub answers_are : (G : Ground) (start : List State) (calls : List Call) (answers : List (Result Answer Refusal)) (ends : List State) →
    G ≡ slots → start ≡ [] → calls ≡ tried_calls → length answers ≡ 14 → Ran G start calls answers ends → answers ≡ tried_answers
answers_are G start calls answers ends is-slots empty same long ran =
    let law : Ran slots [] tried_calls answers ends =
    subst (λ cs. Ran slots [] cs answers ends) same
    (subst (λ xs. Ran slots xs calls answers ends) empty
    (subst (λ H. Ran H start calls answers ends) is-slots ran)) in
    let own = law.own_record refl in
    ext_get_or foreign answers tried_answers long
    (λ k h. own.1 k (omega arith) ∙ told_at slots [] tried_calls k (omega arith) ∙ ap (λ zs. get_or zs k foreign) all_told)

pub all_refused : (G : Ground) (start : List State) (calls : List Call) (answers : List (Result Answer Refusal)) (ends : List State) →
    0 < length start → length calls ≡ 3 → length answers ≡ 3 → Ran G start calls answers ends → answers ≡ held_answers
all_refused G start calls answers ends some three long ran =
    ext_get_or foreign answers held_answers long (λ k h. (ran.foreign_record some).1 k (omega arith) ∙ each k (omega arith))
  where
    each : (k : ℕ) → k < 3 → foreign ≡ get_or held_answers k foreign
    each zero h = refl
    each (suc zero) h = refl
    each (suc (suc zero)) h = refl
    each (suc (suc (suc k))) h = absurd (omega arith)

-- an append to a record that has room for 16 states, taken or not, leaves one that has states
pub holds_some : {U E : Type 0} (xs : List State) (x : State) (r : Result U E) (ys : List State) → Appended xs 16 x r ys → 0 < length ys
holds_some xs x (Ok u) ys h = rw h.1 (omega (arith, length-append xs (x ∷ [])))
holds_some xs x (Err e) ys h = rw h.1 (omega (arith, h.0))

-- ── What is not taken back ──
first_standing : CallIs tried_calls 4 (StandingAt 0 3 4)
first_standing = (omega arith, refl)

later_standing : CallIs tried_calls 10 (StandingAt 0 3 5)
later_standing = (omega arith, refl)

first_label : CallIs tried_calls 5 (LabelAt 2 1 2)
first_label = (omega arith, refl)

later_label : CallIs tried_calls 11 (LabelAt 2 1 5)
later_label = (omega arith, refl)

first_notice : CallIs tried_calls 6 (NoticeOf 4 0)
first_notice = (omega arith, refl)

later_notice : CallIs tried_calls 12 (NoticeOf 4 0)
later_notice = (omega arith, refl)

first_tally : CallIs tried_calls 7 (TallyOf 0)
first_tally = (omega arith, refl)

later_tally : CallIs tried_calls 13 (TallyOf 0)
later_tally = (omega arith, refl)

pub kept_so : (calls : List Call) (answers : List (Result Answer Refusal)) → calls ≡ tried_calls → answers ≡ tried_answers → NeverTakenBack calls answers → KeptSo tried_answers
kept_so calls answers same said law =
    let kept : NeverTakenBack tried_calls tried_answers = subst (λ cs. NeverTakenBack cs tried_answers) same (subst (NeverTakenBack calls) said law) in
    record {
      standings = kept.standings 4 10 0 3 4 5 (Violated 4) (omega arith) first_standing later_standing (omega arith) (λ e. cc) refl;
      labels = kept.labels 5 11 2 1 2 5 is.True (omega arith) first_label later_label (omega arith) (λ e. cc) refl;
      notices = kept.notices 6 12 4 0 (Some lost) (omega arith) first_notice later_notice refl;
      tallies = λ t e. kept.tallies 7 13 0 tally_four t (omega arith) first_tally later_tally refl e;
    }
