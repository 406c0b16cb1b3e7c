-- The labels of a table obey the laws that a monitor's answers rest on, and the answers mean what they say. Assumes nothing.
use Rattle.std.proofs.Common.{◌≡◌, ℕ, ◌+◌, ◌<◌, ◌≤◌, ◌⊎◌, min, Bool, true, false, cond, leb, List, [], length, get_or, Some, None, Err, Option, Result, sym, refl, ap, ◌∙◌, subst, inl, inr, arith}
use Rattle.std.proofs.lemmas.Bool.{leb-true, leb-false, le-leb, lt-leb, cond-true, cond-false, cases_Bool, true≢false}
use Rattle.logic.specs.declared.types.Formula.{Formula}
use Rattle.logic.specs.declared.types.Rule.{Rule}
use Rattle.logic.specs.declared.types.State.{State}
use Rattle.logic.specs.States.{state_at}
use Rattle.logic.specs.Lawful.{LawfulRecord}
use Rattle.logic.specs.Tables.{no_rule, tree}
use Rattle.refusals.specs.declared.Refusal.{Refusal}
use Rattle.refusals.specs.declared.Refusal.TheVariants as refusal
use Rattle.expectations.specs.declared.types.Label.{Label}
use Rattle.expectations.specs.declared.types.Label.TheVariants.{Unknown, TrueFrom, FalseFrom}
use Rattle.expectations.specs.declared.types.Verdict.{Verdict}
use Rattle.expectations.specs.declared.types.Verdict.TheVariants as is
use Rattle.expectations.specs.declared.types.Standing.{Standing}
use Rattle.expectations.specs.declared.types.Standing.TheVariants.{NotRaised, Pending, Fulfilled, Violated}
use Rattle.expectations.specs.Expectations.{verdict}
use Rattle.expectations.specs.Laws.{NotBefore, StandsAs}
use Rattle.expectations.proofs.Standings.{standings_mean_lem}
use Rattle.growth.specs.Growth.{labels_of}
use Rattle.growth.specs.Laws.{Right}
use Rattle.growth.proofs.Growing.{labels_mean_lem, labels_in_order_lem, labels_are_sound_lem, labels_grow_lem}
use Rattle.logic.proofs.Beginnings.{lawful_goes_on_lem}
use Rattle.logic.specs.Tests.{either_unfit}
use Rattle.answers.specs.declared.types.Call.{Call}
use Rattle.answers.specs.declared.types.Call.TheVariants.{Append}
use Rattle.answers.specs.declared.types.Answer.{Answer}
use Rattle.answers.specs.declared.types.Answer.TheVariants.{Number}
use Rattle.answers.specs.Tests.{taken}
use Rattle.answers.specs.Answers.{Ground, or_else, refusal_of, outcome, accepted}
use Rattle.answers.specs.Law.{Founded}
use Rattle.answers.proofs.Judging.{judged}
use Rattle.answers.proofs.Lasting.{lasts}
use Rattle.answers.proofs.Queried.{queries_refused_lem}
use Rattle.answers.proofs.Accepting.{accepted_lawful, accepted_small, accepted_roomy, nothing_lawful}
use Rattle.answers.proofs.Tested.{taken_decides, reference_decides}
use Rattle.answers.proofs.Telling.{label_told, standing_told}
use Rattle.monitor.specs.Book.{ground}
use Rattle.monitor.specs.Meant.{HoldsWeakly, HoldsStrongly, Expects, AppendRefused, Meant}
use Rattle.monitor.specs.Promises.{Promised}

pub founded : (table : List Formula) (rules : List Rule) (room : ℕ) → Founded (ground table rules room)
founded table rules room =
    record {
      dated = λ xs law small. (labels_in_order_lem table xs small).0;
      grows = λ xs x short law more. labels_grow_lem table xs x short more;
      sound = λ xs law small u lawful begins f i d closed one le v. labels_are_sound_lem table xs f i small one le u begins lawful v (inl closed) d;
    }

-- ── Refusals of an append ──
refusal_is : (o : Option Refusal) (n : ℕ) (why : Refusal) → ◌≡◌ {A = Result Answer Refusal} (outcome o (Number n)) (Err why) → o ≡ Some why
refusal_is (Some r) n why e = let z : r ≡ why = cc in ap Some z
refusal_is None n why e = let z : ◌≡◌ {A = ℕ} 0 1 = cc in absurd (omega arith)

first_is : (b : Bool) (r : Refusal) (rest : Option Refusal) (why : Refusal) (P : Refusal → Type 0) → or_else b r rest ≡ Some why → (b ≡ true → P r) → (b ≡ false → rest ≡ Some why → P why) → P why
first_is true r rest why P e here there = let z : r ≡ why = cc in subst P z (here refl)
first_is false r rest why P e here there = there refl e

module _ (G : Ground) (xs : List State) (x : State) where
  append_refused : (why : Refusal) → refusal_of G xs (Append x) ≡ Some why → AppendRefused G xs x why
  append_refused why e =
      first_is (leb 256 (length xs)) refusal.TooManyStates _ why (AppendRefused G xs x) e
      (λ b. leb-true 256 (length xs) b)
      (λ b1 e1.
      first_is (leb G.capacity (length xs)) refusal.RecordFull _ why (AppendRefused G xs x) e1
      (λ b. (leb-false 256 (length xs) b1, leb-true G.capacity (length xs) b))
      (λ b2 e2.
      first_is (taken xs x) (refusal.NominalTaken (length xs + 1)) _ why (AppendRefused G xs x) e2
      (λ b. (leb-false G.capacity (length xs) b2, (leb-false 256 (length xs) b1, refl, (taken_decides xs x).0 b)))
      (λ b3 e3.
      first_is (either_unfit x (length xs + 1)) (refusal.ReferenceUnfit (length xs + 1)) None why (AppendRefused G xs x) e3
      (λ b. (leb-false G.capacity (length xs) b2, (leb-false 256 (length xs) b1, refl, (λ t. absurd (true≢false (sym ((taken_decides xs x).1 t) ∙ b3))), (reference_decides xs x).0 b)))
      (λ b4 e4. let z : ◌≡◌ {A = ℕ} 0 1 = cc in absurd (omega arith)))))

-- ── Verdicts at a date ──
true_is_not_unknown : ◌≡◌ {A = Verdict} is.True is.Unknown → ⊥
true_is_not_unknown e = let z : ◌≡◌ {A = ℕ} 0 1 = cc in omega arith

true_not_false : (b : Bool) → ◌≡◌ {A = Verdict} (cond b is.False is.Unknown) is.True → ⊥
true_not_false true e = let z : ◌≡◌ {A = ℕ} 0 1 = cc in omega arith
true_not_false false e = let z : ◌≡◌ {A = ℕ} 0 1 = cc in omega arith

-- a label that is not dated before i and reads as true at i is true from i on
dated_here : (z : Label) (i : ℕ) → NotBefore i z → verdict z i ≡ is.True → z ≡ TrueFrom i
dated_here Unknown i h e = let z : ◌≡◌ {A = ℕ} 0 1 = cc in absurd (omega arith)
dated_here (TrueFrom d) i h e =
    elim (cases_Bool (leb d i)) [
      | inl t ↦ let same : d ≡ i = omega (arith, h, leb-true d i t) in ap (λ n. TrueFrom n) same
      | inr f ↦ absurd (true_is_not_unknown (sym e ∙ cond-false _ is.True is.Unknown f))
    ]
dated_here (FalseFrom d) i h e = absurd (true_not_false (leb d i) e)

-- a label that is not decided up to c reads as unknown there
unknown_at : (z : Label) (c : ℕ) → ((d : ℕ) → d ≤ c → (z ≡ TrueFrom d) ⊎ (z ≡ FalseFrom d) → ⊥) → verdict z c ≡ is.Unknown
unknown_at Unknown c none = refl
unknown_at (TrueFrom d) c none =
    elim (cases_Bool (leb d c)) [
      | inl t ↦ absurd (none d (leb-true d c t) (inl refl))
      | inr f ↦ cond-false _ is.True is.Unknown f
    ]
unknown_at (FalseFrom d) c none =
    elim (cases_Bool (leb d c)) [
      | inl t ↦ absurd (none d (leb-true d c t) (inr refl))
      | inr f ↦ cond-false _ is.False is.Unknown f
    ]

-- ── What a standing says ──
module _ (table : List Formula) (xs : List State) (small : length xs ≤ 256) (law : LawfulRecord xs) where
  -- the readings of formula f at state i and point c, by the verdict
  right_at : (f i c : ℕ) → 1 ≤ i → i ≤ c → c ≤ length xs → Right (verdict (labels_of table xs f i) c) (HoldsWeakly xs (tree table f) i c) (HoldsStrongly xs (tree table f) i c)
  right_at f i c one low high =
      let kept : min c (length xs) ≡ c = omega (arith, high) in
      subst (λ k. Right (verdict (labels_of table xs f i) c) (HoldsWeakly xs (tree table f) i k) (HoldsStrongly xs (tree table f) i k)) kept
      (labels_mean_lem table xs f i small law one (omega arith) c (omega arith) (omega arith))

  from_date : (f i d : ℕ) → 1 ≤ i → i ≤ length xs → NotBefore i (labels_of table xs f i)
  from_date f i d one le = (labels_in_order_lem table xs small).0 f i one le

  -- a label that is true from its own state on holds strongly there, and no other does
  raised_holds : (f i : ℕ) → 1 ≤ i → i ≤ length xs → labels_of table xs f i ≡ TrueFrom i → HoldsStrongly xs (tree table f) i i
  raised_holds f i one le e =
      let at : i ≤ i = omega arith in
      (right_at f i i one at le).when_true.0 (ap (λ z. verdict z i) e ∙ cond-true _ is.True is.Unknown (le-leb i i at))

  holds_raised : (f i : ℕ) → 1 ≤ i → i ≤ length xs → HoldsStrongly xs (tree table f) i i → labels_of table xs f i ≡ TrueFrom i
  holds_raised f i one le h =
      let at : i ≤ i = omega arith in
      dated_here (labels_of table xs f i) i (from_date f i i one le) ((right_at f i i one at le).when_true.1 h)

  -- before the date of a decision the formula holds weakly and not strongly
  true_holds : (f i d : ℕ) → 1 ≤ i → d ≤ length xs → i ≤ d → labels_of table xs f i ≡ TrueFrom d → HoldsStrongly xs (tree table f) i d
  true_holds f i d one le low e = (right_at f i d one low le).when_true.0 (ap (λ z. verdict z d) e ∙ cond-true _ is.True is.Unknown (le-leb d d (omega arith)))

  not_yet_true : (f i d e : ℕ) → 1 ≤ i → d ≤ length xs → labels_of table xs f i ≡ TrueFrom d → i ≤ e → e < d → HoldsStrongly xs (tree table f) i e → ⊥
  not_yet_true f i d e one le z low less h =
      true_is_not_unknown (sym ((right_at f i e one low (omega arith)).when_true.1 h) ∙ ap (λ w. verdict w e) z ∙ cond-false _ is.True is.Unknown (lt-leb d e less))

  false_fails : (f i d : ℕ) → 1 ≤ i → d ≤ length xs → i ≤ d → labels_of table xs f i ≡ FalseFrom d → HoldsWeakly xs (tree table f) i d → ⊥
  false_fails f i d one le low e = (right_at f i d one low le).when_false.0 (ap (λ z. verdict z d) e ∙ cond-true _ is.False is.Unknown (le-leb d d (omega arith)))

  not_yet_false : (f i d e : ℕ) → 1 ≤ i → d ≤ length xs → labels_of table xs f i ≡ FalseFrom d → i ≤ e → e < d → HoldsWeakly xs (tree table f) i e
  not_yet_false f i d e one le z low less =
      ((right_at f i e one low (omega arith)).when_unknown.0 (ap (λ w. verdict w e) z ∙ cond-false _ is.False is.Unknown (lt-leb d e less))).0

  undecided : (f i c : ℕ) → 1 ≤ i → i ≤ c → c ≤ length xs → ((d : ℕ) → d ≤ c → (labels_of table xs f i ≡ TrueFrom d) ⊎ (labels_of table xs f i ≡ FalseFrom d) → ⊥) →
      HoldsWeakly xs (tree table f) i c × (HoldsStrongly xs (tree table f) i c → ⊥)
  undecided f i c one low high none = (right_at f i c one low high).when_unknown.0 (unknown_at (labels_of table xs f i) c none)

  expects : (condition content i c : ℕ) (s : Standing) → 1 ≤ i → i ≤ c → c ≤ length xs → StandsAs (labels_of table xs) (record { condition = condition; content = content }) i c s →
      Expects xs (tree table condition) (tree table content) i c s
  expects condition content i c NotRaised one low high h = λ holds. h (holds_raised condition i one (omega arith) holds)
  expects condition content i c Pending one low high h =
      let p = undecided content i c one low high h.1 in
      (raised_holds condition i one (omega arith) h.0, p.0, p.1)
  expects condition content i c (Fulfilled d) one low high h =
      let from : i ≤ d = subst (NotBefore i) h.1 (from_date content i d one (omega arith)) in
      let to : d ≤ length xs = omega (arith, h.2) in
      (raised_holds condition i one (omega arith) h.0, from, h.2, true_holds content i d one to from h.1, λ e a b. not_yet_true content i d e one to h.1 a b)
  expects condition content i c (Violated d) one low high h =
      let from : i ≤ d = subst (NotBefore i) h.1 (from_date content i d one (omega arith)) in
      let to : d ≤ length xs = omega (arith, h.2) in
      (raised_holds condition i one (omega arith) h.0, from, h.2, false_fails content i d one to from h.1, λ e a b. not_yet_false content i d e one to h.1 a b)

pub meant : (table : List Formula) (rules : List Rule) (room : ℕ) (xs : List State) → LawfulRecord xs → length xs ≤ 256 → Meant (ground table rules room) xs
meant table rules room xs law small =
    let G = ground table rules room in
    record {
      verdicts = λ f i c v e.
          let p = label_told G xs f i c v e in
          let q = p.0 in
          subst (λ (w : Verdict). Right w (HoldsWeakly xs (tree table f) i c) (HoldsStrongly xs (tree table f) i c)) p.1
          (right_at table xs small law f i c q.state_from q.point_from q.point_to);
      standings = λ r i c s e.
          let p = standing_told G xs r i c s e in
          let q = p.0 in
          let rule = get_or rules r no_rule in
          expects table xs small law rule.condition rule.content i c s q.state_from q.point_from q.point_to ((standings_mean_lem (labels_of table xs) rule i c s).0 p.1);
      appends = λ x why e. append_refused G xs x why (refusal_is (refusal_of G xs (Append x)) (length xs + 1) why e);
    }

-- ── What is promised ──
pub promised : (table : List Formula) (rules : List Rule) (room : ℕ) (xs : List State) → LawfulRecord xs → length xs ≤ 256 → length xs ≤ room → Promised (ground table rules room) xs
promised table rules room xs law small fits =
    let G = ground table rules room in
    let trace = lawful_goes_on_lem xs law in
    record {
      judged = judged G (founded table rules room) xs law small;
      meant = meant table rules room xs law small;
      lasts = lasts G (founded table rules room) xs law small;
      queries = queries_refused_lem G xs;
      goes_on = (state_at xs, trace.0, trace.1);
      few = small;
      roomy = fits;
    }

pub promised_later : (table : List Formula) (rules : List Rule) (room : ℕ) (xs : List State) → LawfulRecord xs → length xs ≤ 256 → length xs ≤ room → (cs : List Call) →
    Promised (ground table rules room) (accepted (ground table rules room) xs cs)
promised_later table rules room xs law small fits cs =
    let G = ground table rules room in
    promised table rules room (accepted G xs cs) (accepted_lawful G xs cs law) (accepted_small G xs cs small) (accepted_roomy G xs cs fits)

-- after calls on a new monitor over an empty record
pub promised_new : (table : List Formula) (rules : List Rule) (room : ℕ) (cs : List Call) → Promised (ground table rules room) (accepted (ground table rules room) [] cs)
promised_new table rules room cs = promised_later table rules room [] nothing_lawful (omega arith) (omega arith) cs
