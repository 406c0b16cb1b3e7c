-- From the law of runs: the answers about the double free, and that it is violated for good.
use Rattle.std.proofs.Common.{◌≡◌, ℕ, zero, suc, ◌<◌, List, [], ◌∷◌, length, get_or, take, replicate, ◌++◌, Some, Ok, Err, Result, sym, refl, ap, ◌∙◌, subst, arith, rules}
use Rattle.std.proofs.lemmas.List.{ext_get_or, get_or-replicate}
use Rattle.logic.specs.declared.types.Formula.{Formula}
use Rattle.logic.specs.declared.types.Rule.{Rule}
use Rattle.logic.specs.declared.types.State.{State}
use Rattle.logic.specs.Lawful.{Lawful}
use Rattle.logic.specs.Logic.{Holds}
use Rattle.logic.specs.States.{Trace, Begins, blank}
use Rattle.records.specs.Growth.{Appended}
use Rattle.logic.specs.Tables.{tree, tree_to, loose}
use Rattle.dating.specs.Dated.{true_from, false_from}
use Rattle.dating.specs.Labels.{until_from, label}
use Rattle.expectations.specs.declared.types.Verdict.TheVariants as is
use Rattle.expectations.specs.declared.types.Standing.TheVariants.{Violated}
use Rattle.growth.specs.Growth.{labels_of}
use Rattle.answers.specs.declared.types.Answer.{Answer}
use Rattle.answers.specs.declared.types.Call.{Call}
use Rattle.answers.specs.declared.types.Call.TheVariants.{Append}
use Rattle.answers.specs.Tests.{carried_to}
use Rattle.answers.specs.Answers.{Ground, told, after, accepted}
use Rattle.answers.specs.Law.{foreign, LabelIs, Ran, Judged}
use Rattle.answers.specs.Lasting.{NeverTakenBack}
use Rattle.refusals.specs.declared.Refusal.{Refusal}
use Rattle.monitor.specs.Book.{ground}
use Rattle.monitor.specs.Meant.{GoesOn}
use Rattle.monitor.specs.Promises.{Promised}
use Rattle.slots.specs.Slots.{slot_formulas, slot_rule, shown, double_free_log}
use Rattle.slots.specs.ForGood.{slot_calls, slot_answers, slot_content, slot_tally, violation, ForGood, NoneTakenBack}
use Rattle.slots.specs.Instances.{slots}
use Rattle.slots.proofs.Instances.{content_is, true_in_log, false_in_log}

-- ── The answers to a list of calls, one after another ──
abbrev tolds : Ground → List State → List Call → List (Result Answer Refusal)
tolds G xs [] = []
tolds G xs (c ∷ cs) = told G xs c ∷ tolds G (after G xs c) cs

told_at : (G : Ground) (xs : List State) (cs : List Call) (k : ℕ) → k < length cs →
    told G (accepted G xs (take k cs)) (get_or cs k (Append blank)) ≡ get_or (tolds G xs cs) k foreign
told_at G xs [] k h = absurd (omega arith)
told_at G xs (c ∷ cs) zero h = refl
told_at G xs (c ∷ cs) (suc k) h = told_at G (after G xs c) cs k (omega arith)

-- ── The slot's table, over a record with room for 64 states ──
pub slots_are : (formulas : List Formula) (rules : List Rule) (room : ℕ) → formulas ≡ slot_formulas → rules ≡ slot_rule ∷ [] → room ≡ 64 →
    ground formulas rules room ≡ slots
slots_are formulas rules room f r n =
    ap (λ fs. ground fs rules room) f ∙ ap (λ rs. ground slot_formulas rs room) r ∙ ap (ground slot_formulas (slot_rule ∷ [])) n

all_accepted : accepted slots [] slot_calls ≡ double_free_log
unfolding carried_to
all_accepted = refl

all_told : tolds slots [] slot_calls ≡ slot_answers
unfolding carried_to labels_of label until_from true_from false_from tree tree_to loose
all_told = refl

pub as_expected : (G : Ground) (start : List State) (calls : List Call) (answers : List (Result Answer Refusal)) (ends : List State) →
    G ≡ slots → start ≡ [] → calls ≡ slot_calls → length answers ≡ 17 → Ran G start calls answers ends →
    (answers ≡ slot_answers) × (ends ≡ double_free_log)
as_expected G start calls answers ends is-slots empty same long ran =
    let law : Ran slots [] slot_calls answers ends =
    subst (λ cs. Ran slots [] cs answers ends) same
    (subst (λ xs. Ran slots xs calls answers ends) empty
    (subst (λ H. Ran H start calls answers ends) is-slots ran)) in
    let own = law.own_record refl in (
      ext_get_or foreign answers slot_answers long
          (λ k h. own.1 k (omega arith) ∙ told_at slots [] slot_calls k (omega arith) ∙ ap (λ zs. get_or zs k foreign) all_told),
      own.0 ∙ all_accepted,
    )

-- the first two states of the log, and what the answers after them promise
abbrev first_two : List Call
first_two = Append (shown 0) ∷ Append (shown 1) ∷ []

two_accepted : accepted slots [] first_two ≡ shown 0 ∷ shown 1 ∷ []
unfolding carried_to
two_accepted = refl

true_after_two : LabelIs slots (shown 0 ∷ shown 1 ∷ []) 4 1 2 is.True
unfolding labels_of label until_from true_from false_from tree tree_to loose
true_after_two = refl

pub lasts_for_good : (G : Ground) (ends : List State) → G ≡ slots → ends ≡ double_free_log → Judged G ends → GoesOn ends →
    ((cs : List Call) → Promised G (accepted G [] cs)) → ForGood
lasts_for_good G ends is-slots same law on beginnings =
    let two : Promised slots (shown 0 ∷ shown 1 ∷ []) = subst (Promised slots) two_accepted (subst (λ H. Promised H (accepted H [] first_two)) is-slots (beginnings first_two)) in
    let judged : Judged slots double_free_log = subst (Judged slots) same (subst (λ H. Judged H ends) is-slots law) in
    let so : (u : Trace) → Lawful u → Begins double_free_log u → (v : ℕ) → Holds u v 1 slot_content = λ u lu b v.
    subst (Holds u v 1) content_is (judged.true_is_so 4 1 2 true_in_log u lu b v) in
    let not_so : (u : Trace) → Lawful u → Begins double_free_log u → (v : ℕ) → Holds u v 3 slot_content → ⊥ = λ u lu b v h.
    judged.false_is_not 4 3 4 false_in_log u lu b v (subst (Holds u v 3) (sym content_is) h) in
    record {
      goes_on = subst GoesOn same on;
      content_true = so;
      content_false = not_so;
      freed = λ u lu b. so u lu b 0;
      never_freed = λ u lu b h. not_so u lu b 0 h;
      freed_soon = λ u lu b. subst (Holds u 0 1) content_is (two.judged.true_is_so 4 1 2 true_after_two u lu b 0);
    }

-- ── None of the answers is taken back ──
pub none_taken_back : (calls : List Call) (answers : List (Result Answer Refusal)) → calls ≡ slot_calls → answers ≡ slot_answers → NeverTakenBack calls answers → NoneTakenBack
none_taken_back calls answers same answered law =
    let never : NeverTakenBack slot_calls slot_answers = subst (NeverTakenBack slot_calls) answered (subst (λ cs. NeverTakenBack cs answers) same law) in
    record {
      standings = λ k d later point is_call. never.standings 6 k 0 3 4 d (Violated 4) later (omega arith, refl) is_call point (λ e. grind (rules, e)) refl;
      labels = λ k d later point is_call. never.labels 4 k 4 3 4 d is.False later (omega arith, refl) is_call point (λ e. grind (rules, e)) refl;
      notices = λ k later is_call. never.notices 5 k 4 0 (Some violation) later (omega arith, refl) is_call refl;
      tallies = λ k t later is_call e. never.tallies 12 k 0 slot_tally t later (omega arith, refl) is_call refl e;
    }

-- ── Over a record that holds a state beforehand ──
pub one_held : {U E : Type 0} (xs ys : List State) (room : ℕ) (x : State) (r : Result U E) → xs ≡ [] → room ≡ 64 → Appended xs room x r ys → 0 < length ys
one_held xs ys room x (Ok _) empty wide a = omega (arith, ap length (a.1 ∙ ap (λ zs. zs ++ x ∷ []) empty))
one_held xs ys room x (Err _) empty wide a = absurd (omega (arith, a.0, wide, ap length empty))

pub all_foreign : (G : Ground) (start : List State) (calls : List Call) (answers : List (Result Answer Refusal)) (ends : List State) →
    0 < length start → calls ≡ slot_calls → length answers ≡ 17 → Ran G start calls answers ends → answers ≡ replicate 17 foreign
all_foreign G start calls answers ends held same long ran =
    let other = ran.foreign_record held in
    ext_get_or foreign answers (replicate 17 foreign) long
    (λ k h. other.1 k (omega (arith, h, long, ap length same)) ∙ sym (get_or-replicate 17 k foreign foreign (omega (arith, h, long))))
