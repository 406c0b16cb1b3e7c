-- What was answered stays so, whatever calls follow.
use Rattle.std.proofs.Common.{◌≡◌, ℕ, zero, suc, ◌<◌, ◌≤◌, ◌⊎◌, List, [], ◌∷◌, ◌++◌, length, get_or, take, Ok, Err, Option, Result, sym, refl, ap, ◌∙◌, subst, inl, inr, ⊎_elim, arith}
use Rattle.std.proofs.lemmas.Bool.{cases_lt}
use Rattle.logic.specs.declared.types.State.{State}
use Rattle.logic.specs.States.{blank}
use Rattle.logic.specs.Lawful.{LawfulRecord}
use Rattle.logic.specs.Tables.{no_rule}
use Rattle.refusals.specs.declared.Refusal.{Refusal}
use Rattle.refusals.specs.declared.Refusal.TheVariants as refusal
use Rattle.expectations.specs.declared.types.Verdict.{Verdict}
use Rattle.expectations.specs.declared.types.Verdict.TheVariants as is
use Rattle.expectations.specs.declared.types.Standing.{Standing}
use Rattle.expectations.specs.declared.types.Standing.TheVariants.{Pending}
use Rattle.expectations.specs.declared.types.Notice.{Notice}
use Rattle.expectations.specs.declared.types.Tally.{Tally}
use Rattle.expectations.specs.Expectations.{tallied}
use Rattle.expectations.specs.Counted.{NoFewer}
use Rattle.expectations.proofs.Stays.{decisions_last_lem}
use Rattle.answers.specs.declared.types.Call.{Call}
use Rattle.answers.specs.declared.types.Call.TheVariants.{Append, LabelAt, StandingAt, TallyOf, NoticeOf}
use Rattle.answers.specs.declared.types.Answer.{Answer}
use Rattle.answers.specs.declared.types.Answer.TheVariants.{Reads, Stands, Counts, Tells}
use Rattle.answers.specs.Answers.{Ground, refusal_of, after, accepted, told}
use Rattle.answers.specs.Law.{foreign, with_one_more, LabelIs, StandingIs, TallyIs, NoticeIs, Takes, Founded, Judged, Ran}
use Rattle.answers.specs.Lasting.{Lasts, CallIs, AnswerIs, PointRefused, NeverTakenBack}
use Rattle.answers.proofs.Accepting.{grown_keeps, lawful_after, small_after, accepted_lawful, accepted_small, nothing_lawful}
use Rattle.answers.proofs.Judging.{judged}
use Rattle.answers.proofs.Telling.{asked_more, label_told, label_tells, label_beyond, standing_asked_more, standing_told, standing_tells, standing_beyond, tally_told, tally_tells, notice_point}

-- ── Counts that do not fall ──
same_tally : (t u : Tally) → t ≡ u → NoFewer t u
same_tally t u e = subst (NoFewer t) e (omega arith, omega arith, omega arith)

no_fewer : (t u v : Tally) → NoFewer t u → NoFewer u v → NoFewer t v
no_fewer t u v a b = (omega (arith, a.0, b.0), omega (arith, a.1, b.1), omega (arith, a.2, b.2))

-- ── Over the same states ──
module _ (G : Ground) (xs : List State) where
  label_within : (f i c d : ℕ) (v : Verdict) → LabelIs G xs f i c v → (v ≡ is.Unknown → ⊥) → c ≤ d → d ≤ length xs → LabelIs G xs f i d v
  label_within f i c d v t known le high =
      let p = label_told G xs f i c v t in
      let a = p.0 in
      let same : length xs ≤ length xs = omega arith in
      label_tells G xs f i d v
      (asked_more G (length xs) (length xs) f i c d a same (omega (arith, a.point_from)) high)
      ((decisions_last_lem c d le).0 (G.labelled xs f i) (λ e. known (sym p.1 ∙ e)) ∙ p.1)

  standing_within : (r i c d : ℕ) (s : Standing) → StandingIs G xs r i c s → (s ≡ Pending → ⊥) → c ≤ d → d ≤ length xs → StandingIs G xs r i d s
  standing_within r i c d s t known le high =
      let p = standing_told G xs r i c s t in
      let a = p.0 in
      standing_tells G xs r i d s
      (standing_asked_more G (length xs) (length xs) r i c d a (omega (arith, a.point_from)) high)
      ((decisions_last_lem c d le).1 (G.labelled xs) (get_or G.rules r no_rule) i (λ e. known (sym p.1 ∙ e)) ∙ p.1)

-- ── After one call ──
module _ (G : Ground) (F : Founded G) where
  -- what stays after one more state that is taken stays after any calls
  stays : (P : List State → Type 0) → ((xs : List State) (x : State) → Judged G xs → Takes G xs x → P xs → P (with_one_more xs x)) →
      (xs : List State) (cs : List Call) → LawfulRecord xs → length xs ≤ 256 → P xs → P (accepted G xs cs)
  stays P step xs [] law small p = p
  stays P step xs (c ∷ cs) law small p =
      stays P step (after G xs c) cs (lawful_after G xs c law) (small_after G xs c small) (once c)
    where
      once : (c : Call) → P (after G xs c)
      once (Append x) = grown_keeps P (refusal_of G xs (Append x)) xs x p (λ takes. step xs x (judged G F xs law small) takes p)
      once (LabelAt f i c) = p
      once (StandingAt r i c) = p
      once (TallyOf r) = p
      once (NoticeOf c k) = p

  module _ (xs : List State) (law : LawfulRecord xs) (small : length xs ≤ 256) where
    old_label : (cs : List Call) (f i c : ℕ) (v : Verdict) → LabelIs G xs f i c v → LabelIs G (accepted G xs cs) f i c v
    old_label cs f i c v = stays (λ ys. LabelIs G ys f i c v) (λ ys x j takes. j.points_stay x takes f i c v) xs cs law small

    old_standing : (cs : List Call) (r i c : ℕ) (s : Standing) → StandingIs G xs r i c s → StandingIs G (accepted G xs cs) r i c s
    old_standing cs r i c s =
        stays (λ ys. StandingIs G ys r i c s)
        (λ ys x j takes t. let a = (standing_told G ys r i c s t).0 in j.standings_stay x takes r i c a.state_from a.point_from a.point_to ∙ t)
        xs cs law small

    old_notice : (cs : List Call) (c k : ℕ) (x : Option Notice) → NoticeIs G xs c k x → NoticeIs G (accepted G xs cs) c k x
    old_notice cs c k x =
        stays (λ ys. NoticeIs G ys c k x)
        (λ ys y j takes t. let a = notice_point G ys c k x t in j.notices_stay y takes c k a.0 a.1 ∙ t)
        xs cs law small

    tally_lasts : (cs : List Call) (r : ℕ) (t : Tally) → TallyIs G xs r t → (u : Tally) → TallyIs G (accepted G xs cs) r u → NoFewer t u
    tally_lasts cs r t e =
        stays (λ ys. (u : Tally) → TallyIs G ys r u → NoFewer t u)
        (λ ys x j takes less u f.
        let before : Tally = tallied (G.labelled ys) (get_or G.rules r no_rule) (length ys) (length ys) in
        let now : TallyIs G ys r before = tally_tells G ys r (tally_told G xs r t e).0 in
        no_fewer t before u (less before now) (j.tallies_grow x takes r before u now f))
        xs cs law small (λ u f. same_tally t u (sym (tally_told G xs r t e).1 ∙ (tally_told G xs r u f).1))

    pub lasts : Lasts G xs
    lasts = record {
      labels = λ cs f i c d v t known le high. label_within G (accepted G xs cs) f i c d v (old_label cs f i c v t) known le high;
      standings = λ cs r i c d s t known le high. standing_within G (accepted G xs cs) r i c d s (old_standing cs r i c s t) known le high;
      old_labels = old_label;
      old_standings = old_standing;
      old_notices = old_notice;
      tallies = λ cs r t u e f. tally_lasts cs r t e u f;
    }

-- ── Among the answers to a list of calls on a new monitor ──
accepted_append : (G : Ground) (xs : List State) (cs ds : List Call) → accepted G xs (cs ++ ds) ≡ accepted G (accepted G xs cs) ds
accepted_append G xs [] ds = refl
accepted_append G xs (c ∷ cs) ds = accepted_append G (after G xs c) cs ds

-- the calls from j to k
between : (j k : ℕ) → List Call → List Call
between zero k cs = take k cs
between (suc j) k [] = []
between (suc j) zero (c ∷ cs) = []
between (suc j) (suc k) (c ∷ cs) = between j k cs

take_parts : (j k : ℕ) (cs : List Call) → j ≤ k → take k cs ≡ take j cs ++ between j k cs
unfolding between
take_parts zero k cs le = refl
take_parts (suc j) zero [] le = refl
take_parts (suc j) (suc k) [] le = refl
take_parts (suc j) zero (c ∷ cs) le = absurd (omega arith)
take_parts (suc j) (suc k) (c ∷ cs) le = ap (λ ds. c ∷ ds) (take_parts j k cs (omega arith))

not_both : (r : Result Answer Refusal) (why : Refusal) (a : Answer) → r ≡ Err why → r ≡ Ok a → ⊥
not_both r why a e f = let z : ◌≡◌ {A = Result Answer Refusal} (Err why) (Ok a) = sym e ∙ f in let w : ◌≡◌ {A = ℕ} 0 1 = cc in omega arith

-- over states of the monitor's own
module _ (G : Ground) (F : Founded G) (calls : List Call) (answers : List (Result Answer Refusal))
    (own : (k : ℕ) → k < length calls → get_or answers k foreign ≡ told G (accepted G [] (take k calls)) (get_or calls k (Append blank))) where
  at : ℕ → List State
  at k = accepted G [] (take k calls)

  at_later : (j k : ℕ) → j ≤ k → at k ≡ accepted G (at j) (between j k calls)
  unfolding at
  at_later j k le = ap (accepted G []) (take_parts j k calls le) ∙ accepted_append G [] (take j calls) (between j k calls)

  at_lasts : (j : ℕ) → Lasts G (at j)
  unfolding at
  at_lasts j = lasts G F (accepted G [] (take j calls)) (accepted_lawful G [] (take j calls) nothing_lawful) (accepted_small G [] (take j calls) (omega arith))

  answered : (k : ℕ) (c : Call) → CallIs calls k c → get_or answers k foreign ≡ told G (at k) c
  unfolding at
  answered k c is = own k is.0 ∙ ap (told G (at k)) is.1

  own_standings : (j k r i c d : ℕ) (s : Standing) → j ≤ k → CallIs calls j (StandingAt r i c) → CallIs calls k (StandingAt r i d) → c ≤ d →
      (s ≡ Pending → ⊥) → AnswerIs answers j (Stands s) → AnswerIs answers k (Stands s) ⊎ PointRefused answers k
  own_standings j k r i c d s le first second later known e =
      let was : StandingIs G (at j) r i c s = sym (answered j (StandingAt r i c) first) ∙ e in
      let is : StandingIs G (at k) r i c s = subst (λ ys. StandingIs G ys r i c s) (sym (at_later j k le)) ((at_lasts j).old_standings (between j k calls) r i c s was) in
      ⊎_elim
      (λ (past : length (at k) < d). inr (answered k (StandingAt r i d) second ∙ standing_beyond G (at k) r i c d (standing_told G (at k) r i c s is).0 past))
      (λ (there : d ≤ length (at k)). inl (answered k (StandingAt r i d) second ∙ standing_within G (at k) r i c d s is known later there))
      (cases_lt (length (at k)) d)

  own_labels : (j k f i c d : ℕ) (v : Verdict) → j ≤ k → CallIs calls j (LabelAt f i c) → CallIs calls k (LabelAt f i d) → c ≤ d →
      (v ≡ is.Unknown → ⊥) → AnswerIs answers j (Reads v) → AnswerIs answers k (Reads v) ⊎ PointRefused answers k
  own_labels j k f i c d v le first second later known e =
      let was : LabelIs G (at j) f i c v = sym (answered j (LabelAt f i c) first) ∙ e in
      let is : LabelIs G (at k) f i c v = subst (λ ys. LabelIs G ys f i c v) (sym (at_later j k le)) ((at_lasts j).old_labels (between j k calls) f i c v was) in
      ⊎_elim
      (λ (past : length (at k) < d). inr (answered k (LabelAt f i d) second ∙ label_beyond G (at k) f i c d (label_told G (at k) f i c v is).0 past))
      (λ (there : d ≤ length (at k)). inl (answered k (LabelAt f i d) second ∙ label_within G (at k) f i c d v is known later there))
      (cases_lt (length (at k)) d)

  own_notices : (j k c m : ℕ) (x : Option Notice) → j ≤ k → CallIs calls j (NoticeOf c m) → CallIs calls k (NoticeOf c m) →
      AnswerIs answers j (Tells x) → AnswerIs answers k (Tells x)
  own_notices j k c m x le first second e =
      let was : NoticeIs G (at j) c m x = sym (answered j (NoticeOf c m) first) ∙ e in
      answered k (NoticeOf c m) second
      ∙ subst (λ ys. NoticeIs G ys c m x) (sym (at_later j k le)) ((at_lasts j).old_notices (between j k calls) c m x was)

  own_tallies : (j k r : ℕ) (t u : Tally) → j ≤ k → CallIs calls j (TallyOf r) → CallIs calls k (TallyOf r) →
      AnswerIs answers j (Counts t) → AnswerIs answers k (Counts u) → NoFewer t u
  own_tallies j k r t u le first second e f =
      let was : TallyIs G (at j) r t = sym (answered j (TallyOf r) first) ∙ e in
      let is : TallyIs G (at k) r u = sym (answered k (TallyOf r) second) ∙ f in
      (at_lasts j).tallies (between j k calls) r t u was (subst (λ ys. TallyIs G ys r u) (at_later j k le) is)

  pub own_never_back : NeverTakenBack calls answers
  own_never_back = record { standings = own_standings; labels = own_labels; notices = own_notices; tallies = own_tallies }

-- over a foreign record nothing is answered
module _ (calls : List Call) (answers : List (Result Answer Refusal)) (all : (k : ℕ) → k < length calls → get_or answers k foreign ≡ foreign) where
  nothing : (j : ℕ) (c : Call) (a : Answer) → CallIs calls j c → AnswerIs answers j a → ⊥
  nothing j c a is e = not_both (get_or answers j foreign) refusal.ForeignRecord a (all j is.0) e

  pub foreign_never_back : NeverTakenBack calls answers
  foreign_never_back = record {
    standings = λ j k r i c d s le first second later known e. absurd (nothing j (StandingAt r i c) (Stands s) first e);
    labels = λ j k f i c d v le first second later known e. absurd (nothing j (LabelAt f i c) (Reads v) first e);
    notices = λ j k c m x le first second e. absurd (nothing j (NoticeOf c m) (Tells x) first e);
    tallies = λ j k r t u le first second e f. absurd (nothing j (TallyOf r) (Counts t) first e);
  }

pub never_back : (G : Ground) → Founded G → (start : List State) (calls : List Call) (answers : List (Result Answer Refusal)) (ends : List State) →
    Ran G start calls answers ends → NeverTakenBack calls answers
never_back G F start calls answers ends ran =
    ⊎_elim
    (λ (some : 0 < length start). foreign_never_back calls answers (ran.foreign_record some).1)
    (λ (none : length start ≤ 0). let empty : length start ≡ 0 = omega arith in own_never_back G F calls answers (ran.own_record empty).1)
    (cases_lt 0 (length start))
