-- From the laws of labels: what holds of a monitor's answers over lawful states.
use Rattle.std.proofs.Common.{◌≡◌, ℕ, suc, ◌+◌, ◌<◌, ◌≤◌, List, length, get_or, Some, Ok, Option, sym, ap, ◌∙◌, subst, ap₂, arith}
use Rattle.std.specs.List.{slice_get}
use Rattle.std.proofs.lemmas.List.{length_push}
use Rattle.logic.specs.declared.types.State.{State}
use Rattle.logic.specs.Lawful.{LawfulRecord}
use Rattle.logic.specs.Tables.{no_rule}
use Rattle.expectations.specs.declared.types.Verdict.{Verdict}
use Rattle.expectations.specs.declared.types.Verdict.TheVariants as is
use Rattle.expectations.specs.declared.types.Standing.{Standing}
use Rattle.expectations.specs.declared.types.Standing.TheVariants.{Pending}
use Rattle.expectations.specs.declared.types.Notice.{Notice}
use Rattle.expectations.specs.declared.types.Tally.{Tally}
use Rattle.expectations.specs.Expectations.{tallied}
use Rattle.expectations.specs.Laws.{Grows, Before}
use Rattle.expectations.specs.Counted.{Counts as CountsTold, NoFewer}
use Rattle.expectations.proofs.Counts.{tallies_sum_lem}
use Rattle.expectations.proofs.Counted.{tallies_told_lem}
use Rattle.expectations.proofs.Order.{notices_in_order}
use Rattle.expectations.proofs.Once.{happens_once, told_happens_lem, told_at_one_point_lem}
use Rattle.expectations.proofs.Stays.{verdict_same, standings_stay_lem, notices_stay_lem, verdict_lasts_lem, standing_lasts_lem, tallies_grow_lem}
use Rattle.answers.specs.declared.types.Call.TheVariants.{StandingAt, NoticeOf}
use Rattle.answers.specs.declared.types.Answer.TheVariants.{Stands, Tells}
use Rattle.answers.specs.Answers.{Ground, outcome, told}
use Rattle.answers.specs.Law.{Takes, with_one_more, LabelIs, StandingIs, TallyIs, NoticeIs, ToldOnce, NeverTold, HappensAt, AlwaysHolds, NeverHolds, Founded, Judged}
use Rattle.answers.proofs.Tested.{takes_fit, fit_takes, takes_lawful}
use Rattle.answers.proofs.Deciding.{true_has_date, false_has_date}
use Rattle.answers.proofs.Telling.{asked_more, label_told, label_tells, standing_refusal, standing_asked_more, standing_told, standing_tells, tally_told, notice_told, notice_point, notice_stands, no_more_after}

module _ (G : Ground) (F : Founded G) (xs : List State) (law : LawfulRecord xs) (small : length xs ≤ 256) where
  -- ── What is decided is so ──
  true_so : (f i c : ℕ) → LabelIs G xs f i c is.True → AlwaysHolds G xs f i
  true_so f i c t u lu b v =
      let p = label_told G xs f i c is.True t in
      let d = true_has_date (G.labelled xs f i) c p.1 in
      (F.sound xs law small u lu b f i d.0 p.0.is_closed p.0.state_from p.0.state_to v).0 d.1

  false_not : (f i c : ℕ) → LabelIs G xs f i c is.False → NeverHolds G xs f i
  false_not f i c t u lu b v =
      let p = label_told G xs f i c is.False t in
      let d = false_has_date (G.labelled xs f i) c p.1 in
      (F.sound xs law small u lu b f i d.0 p.0.is_closed p.0.state_from p.0.state_to v).1 d.1

  -- ── After one more state ──
  module _ (x : State) (takes : Takes G xs x) where
    abbrev pub ys : List State
    ys = with_one_more xs x

    grows : Grows (length xs) (G.labelled xs) (G.labelled ys)
    grows = F.grows xs x (takes_fit G xs x takes).0.0 law (takes_lawful G xs x law takes)

    longer : length ys ≡ length xs + 1
    longer = length_push xs x

    point_stays : (f i c : ℕ) (v : Verdict) → LabelIs G xs f i c v → LabelIs G ys f i c v
    point_stays f i c v t =
        let p = label_told G xs f i c v t in
        let a = p.0 in
        label_tells G ys f i c v
        (asked_more G (length xs) (length ys) f i c c a (omega (arith, longer)) a.point_from (omega (arith, longer, a.point_to)))
        (verdict_same (length xs) (G.labelled xs f i) (G.labelled ys f i) (grows f i a.state_from a.state_to) c a.point_to ∙ p.1)

    verdict_stays : (f i c : ℕ) (v : Verdict) → LabelIs G xs f i c v → (v ≡ is.Unknown → ⊥) → LabelIs G ys f i (suc (length xs)) v
    verdict_stays f i c v t known =
        let p = label_told G xs f i c v t in
        let a = p.0 in
        label_tells G ys f i (suc (length xs)) v
        (asked_more G (length xs) (length ys) f i c (suc (length xs)) a (omega (arith, longer)) (omega (arith, a.state_to)) (omega (arith, longer)))
        (verdict_lasts_lem (length xs) (G.labelled xs) (G.labelled ys) grows f i c (suc (length xs)) v a.state_from a.state_to a.point_to (omega (arith, a.point_to)) p.1 known)

    standing_stays : (r i c : ℕ) → 1 ≤ i → i ≤ c → c ≤ length xs → told G ys (StandingAt r i c) ≡ told G xs (StandingAt r i c)
    standing_stays r i c one low high =
        ap₂ outcome
        (standing_refusal G ys r i c one low (omega (arith, longer)) ∙ sym (standing_refusal G xs r i c one low high))
        (ap Stands (standings_stay_lem (length xs) (G.labelled xs) (G.labelled ys) grows (get_or G.rules r no_rule) i c one low high))

    standing_lasts : (r i c : ℕ) (s : Standing) → StandingIs G xs r i c s → (s ≡ Pending → ⊥) → StandingIs G ys r i (suc (length xs)) s
    standing_lasts r i c s t known =
        let p = standing_told G xs r i c s t in
        let a = p.0 in
        standing_tells G ys r i (suc (length xs)) s
        (standing_asked_more G (length xs) (length ys) r i c (suc (length xs)) a (omega (arith, a.point_from, a.point_to)) (omega (arith, longer)))
        (standing_lasts_lem (length xs) (G.labelled xs) (G.labelled ys) grows (get_or G.rules r no_rule) i c (suc (length xs)) s a.state_from a.point_from a.point_to (omega (arith, a.point_to)) p.1 known)

    notice_stays : (c k : ℕ) → 1 ≤ c → c ≤ length xs → told G ys (NoticeOf c k) ≡ told G xs (NoticeOf c k)
    notice_stays c k one high =
        notice_told G ys c k one (omega (arith, longer))
        ∙ ap (λ ns. Ok (Tells (slice_get ns k))) (notices_stay_lem (length xs) (G.labelled xs) (G.labelled ys) grows G.rules c high)
        ∙ sym (notice_told G xs c k one high)

    tally_grows : (r : ℕ) (t u : Tally) → TallyIs G xs r t → TallyIs G ys r u → NoFewer t u
    tally_grows r t u e f =
        let rule = get_or G.rules r no_rule in
        let n : length ys ≡ suc (length xs) = omega (arith, longer) in
        let old = (tally_told G xs r t e).1 in
        let new : tallied (G.labelled ys) rule (suc (length xs)) (suc (length xs)) ≡ u = ap (λ m. tallied (G.labelled ys) rule m m) (sym n) ∙ (tally_told G ys r u f).1 in
        subst (λ (z : Tally). NoFewer z u) old
        (subst (λ (z : Tally). NoFewer (tallied (G.labelled xs) rule (length xs) (length xs)) z) new
        (tallies_grow_lem (length xs) (G.labelled xs) (G.labelled ys) grows rule))

  -- ── Tallies and notices ──
  tally_sums : (r : ℕ) (t : Tally) → TallyIs G xs r t → t.raised ≡ t.pending + (t.fulfilled + t.violated)
  tally_sums r t e =
      subst (λ (z : Tally). z.raised ≡ z.pending + (z.fulfilled + z.violated)) (tally_told G xs r t e).1
      (tallies_sum_lem (G.labelled xs) (get_or G.rules r no_rule) (length xs) (length xs))

  tally_counts : (r : ℕ) (t : Tally) → TallyIs G xs r t → CountsTold t (G.labelled xs) G.rules (length xs) r
  tally_counts r t e =
      let p = tally_told G xs r t e in
      let all : length xs ≤ length xs = omega arith in
      subst (λ (z : Tally). CountsTold z (G.labelled xs) G.rules (length xs) r) p.1
      (tallies_told_lem (length xs) (G.labelled xs) G.rules (F.dated xs law small) (length xs) r all p.0)

  notice_once : (x : Notice) (c : ℕ) → 1 ≤ c → c ≤ length xs →
      (HappensAt G xs x c → ToldOnce G xs x c) × ((HappensAt G xs x c → ⊥) → NeverTold G xs x c)
  notice_once x c one high =
      let once = happens_once (length xs) (G.labelled xs) G.rules (F.dated xs law small) x c high in (
        (λ so. let p = once.0 so in (p.0, notice_told G xs c p.0 one high ∙ ap (λ (o : Option Notice). Ok (Tells o)) p.1, λ j e. p.2 j (notice_stands G xs c j x e))),
        (λ not_so k e. once.1 not_so k (notice_stands G xs c k x e)),
      )

  notice_happens : (c k : ℕ) (x : Notice) → NoticeIs G xs c k (Some x) → HappensAt G xs x c
  notice_happens c k x e = told_happens_lem (length xs) (G.labelled xs) G.rules x c k (notice_point G xs c k (Some x) e).1 (notice_stands G xs c k x e)

  notice_at_one_point : (c d j k : ℕ) (x : Notice) → NoticeIs G xs c j (Some x) → NoticeIs G xs d k (Some x) → (c ≡ d) × (j ≡ k)
  notice_at_one_point c d j k x e f = told_at_one_point_lem (G.labelled xs) G.rules x c d j k (notice_stands G xs c j x e) (notice_stands G xs d k x f)

  notice_order : (c j k : ℕ) (x y : Notice) → j < k → NoticeIs G xs c j (Some x) → NoticeIs G xs c k (Some y) → Before x y
  notice_order c j k x y l e f =
      notices_in_order (G.labelled xs) G.rules c j k x y l (notice_stands G xs c j x e) (notice_stands G xs c k y f)

  all_judged : Judged G xs
  all_judged = record {
    lawful = law;
    takes_what_may_follow = takes_fit G xs;
    may_follow_is_taken = fit_takes G xs;
    true_is_so = true_so;
    false_is_not = false_not;
    dated = F.dated xs law small;
    labels_grow = grows;
    points_stay = point_stays;
    verdicts_stay = verdict_stays;
    standings_stay = standing_stays;
    standings_last = standing_lasts;
    notices_stay = notice_stays;
    tallies_sum = tally_sums;
    tallies_told = tally_counts;
    tallies_grow = tally_grows;
    notices_once = notice_once;
    notices_happen = notice_happens;
    notices_at_one_point = notice_at_one_point;
    notices_in_order = notice_order;
    no_gaps = no_more_after G xs;
  }

pub judged : (G : Ground) → Founded G → (xs : List State) → LawfulRecord xs → length xs ≤ 256 → Judged G xs
judged = all_judged
