-- Which calls are answered, and with what.
use Rattle.std.proofs.Common.{◌≡◌, ℕ, zero, suc, ◌<◌, ◌≤◌, false, leb, List, [], ◌∷◌, length, get_or, Some, None, Ok, Err, Option, sym, refl, ap, ap₂, ◌∙◌, arith}
use Rattle.std.specs.List.{slice_get}
use Rattle.std.proofs.lemmas.Bool.{leb-false, lt-leb}
use Rattle.logic.specs.declared.types.State.{State}
use Rattle.logic.specs.Tables.{no_rule}
use Rattle.expectations.specs.declared.types.Verdict.{Verdict}
use Rattle.expectations.specs.declared.types.Standing.{Standing}
use Rattle.expectations.specs.declared.types.Notice.{Notice}
use Rattle.expectations.specs.declared.types.Tally.{Tally}
use Rattle.expectations.specs.Expectations.{verdict, standing, tallied, notices}
use Rattle.refusals.specs.declared.Refusal.TheVariants as refusal
use Rattle.answers.specs.declared.types.Call.TheVariants.{LabelAt, StandingAt, TallyOf, NoticeOf}
use Rattle.answers.specs.declared.types.Answer.{Answer}
use Rattle.answers.specs.declared.types.Answer.TheVariants.{Reads, Stands, Counts, Tells}
use Rattle.answers.specs.Answers.{Ground, outside, or_else, refusal_of, answer, outcome, told}
use Rattle.answers.specs.Law.{LabelIs, StandingIs, TallyIs, NoticeIs}
use Rattle.answers.proofs.Refusing.{no_reason, without_reason, first_reason, within, inside, beyond, outcome_ok}

-- ── Labels ──

-- the label of formula f at state i, read at point c, is one that is given over n states
pub record Asked (G : Ground) (n f i c : ℕ) : Type 0 where
  pub is_formula : f < G.formulas
  pub is_closed : G.loose f ≡ false
  pub state_from : 1 ≤ i
  pub state_to : i ≤ n
  pub point_from : i ≤ c
  pub point_to : c ≤ n

-- the same label at another point, over as many states or more
pub asked_more : (G : Ground) (n m f i c d : ℕ) → Asked G n f i c → n ≤ m → i ≤ d → d ≤ m → Asked G m f i d
asked_more G n m f i c d a more low high = record {
  is_formula = a.is_formula;
  is_closed = a.is_closed;
  state_from = a.state_from;
  state_to = omega (arith, a.state_to);
  point_from = low;
  point_to = high;
}

label_asked : (G : Ground) (xs : List State) (f i c : ℕ) → refusal_of G xs (LabelAt f i c) ≡ None → Asked G (length xs) f i c
label_asked G xs f i c e =
    let known = no_reason (leb G.formulas f) refusal.NoSuchName _ e in
    let closed = no_reason (G.loose f) refusal.LooseFormula _ known.1 in
    let state = no_reason (outside i 1 (length xs)) refusal.NoSuchState _ closed.1 in
    let point = no_reason (outside c i (length xs)) refusal.NoSuchPoint _ state.1 in
    let at = within i 1 (length xs) state.0 in
    let by = within c i (length xs) point.0 in
    record {
      is_formula = leb-false G.formulas f known.0;
      is_closed = closed.0;
      state_from = at.0;
      state_to = at.1;
      point_from = by.0;
      point_to = by.1;
    }

asked_label : (G : Ground) (xs : List State) (f i c : ℕ) → Asked G (length xs) f i c → refusal_of G xs (LabelAt f i c) ≡ None
asked_label G xs f i c a =
    without_reason (leb G.formulas f) refusal.NoSuchName _ (lt-leb G.formulas f a.is_formula)
    (without_reason (G.loose f) refusal.LooseFormula _ a.is_closed
    (without_reason (outside i 1 (length xs)) refusal.NoSuchState _ (inside i 1 (length xs) a.state_from a.state_to)
    (without_reason (outside c i (length xs)) refusal.NoSuchPoint None (inside c i (length xs) a.point_from a.point_to) refl)))

reads_same : (v w : Verdict) → ◌≡◌ {A = Answer} (Reads v) (Reads w) → v ≡ w
reads_same v w e = cc

pub label_told : (G : Ground) (xs : List State) (f i c : ℕ) (v : Verdict) → LabelIs G xs f i c v → Asked G (length xs) f i c × (verdict (G.labelled xs f i) c ≡ v)
label_told G xs f i c v e =
    let p = outcome_ok (refusal_of G xs (LabelAt f i c)) (answer G xs (LabelAt f i c)) (Reads v) (sym e) in
    (label_asked G xs f i c p.0, reads_same _ v (sym p.1))

pub label_tells : (G : Ground) (xs : List State) (f i c : ℕ) (v : Verdict) → Asked G (length xs) f i c → verdict (G.labelled xs f i) c ≡ v → LabelIs G xs f i c v
label_tells G xs f i c v a e = ap₂ outcome (asked_label G xs f i c a) (ap Reads e)

-- at a point after the last one it is refused
pub label_beyond : (G : Ground) (xs : List State) (f i c d : ℕ) → Asked G (length xs) f i c → length xs < d → told G xs (LabelAt f i d) ≡ Err refusal.NoSuchPoint
label_beyond G xs f i c d a past =
    ap (λ why. outcome why (answer G xs (LabelAt f i d)))
    (without_reason (leb G.formulas f) refusal.NoSuchName _ (lt-leb G.formulas f a.is_formula)
    (without_reason (G.loose f) refusal.LooseFormula _ a.is_closed
    (without_reason (outside i 1 (length xs)) refusal.NoSuchState _ (inside i 1 (length xs) a.state_from a.state_to)
    (first_reason (outside d i (length xs)) refusal.NoSuchPoint None (beyond d i (length xs) past)))))

-- ── Standings and tallies ──

pub standing_refusal : (G : Ground) (xs : List State) (r i c : ℕ) → 1 ≤ i → i ≤ c → c ≤ length xs →
    refusal_of G xs (StandingAt r i c) ≡ or_else (leb (length G.rules) r) refusal.NoSuchName None
standing_refusal G xs r i c one low high =
    ap (or_else (leb (length G.rules) r) refusal.NoSuchName)
    (without_reason (outside i 1 (length xs)) refusal.NoSuchState _ (inside i 1 (length xs) one (omega arith))
    (without_reason (outside c i (length xs)) refusal.NoSuchPoint None (inside c i (length xs) low high) refl))

-- the standing of rule r's expectation of state i at point c is one that is given over n states
pub record AskedStanding (G : Ground) (n r i c : ℕ) : Type 0 where
  pub is_rule : leb (length G.rules) r ≡ false
  pub state_from : 1 ≤ i
  pub point_from : i ≤ c
  pub point_to : c ≤ n

-- the same standing at another point, over as many states or more
pub standing_asked_more : (G : Ground) (n m r i c d : ℕ) → AskedStanding G n r i c → i ≤ d → d ≤ m → AskedStanding G m r i d
standing_asked_more G n m r i c d a low high = record { is_rule = a.is_rule; state_from = a.state_from; point_from = low; point_to = high }

stands_same : (s t : Standing) → ◌≡◌ {A = Answer} (Stands s) (Stands t) → s ≡ t
stands_same s t e = cc

pub standing_told : (G : Ground) (xs : List State) (r i c : ℕ) (s : Standing) → StandingIs G xs r i c s →
    AskedStanding G (length xs) r i c × (standing (G.labelled xs) (get_or G.rules r no_rule) i c ≡ s)
standing_told G xs r i c s e =
    let p = outcome_ok (refusal_of G xs (StandingAt r i c)) (answer G xs (StandingAt r i c)) (Stands s) (sym e) in
    let known = no_reason (leb (length G.rules) r) refusal.NoSuchName _ p.0 in
    let state = no_reason (outside i 1 (length xs)) refusal.NoSuchState _ known.1 in
    let point = no_reason (outside c i (length xs)) refusal.NoSuchPoint _ state.1 in
    let at = within i 1 (length xs) state.0 in
    let by = within c i (length xs) point.0 in
    (record { is_rule = known.0; state_from = at.0; point_from = by.0; point_to = by.1 }, stands_same _ s (sym p.1))

pub standing_tells : (G : Ground) (xs : List State) (r i c : ℕ) (s : Standing) → AskedStanding G (length xs) r i c →
    standing (G.labelled xs) (get_or G.rules r no_rule) i c ≡ s → StandingIs G xs r i c s
standing_tells G xs r i c s a e =
    ap₂ outcome
    (standing_refusal G xs r i c a.state_from a.point_from a.point_to ∙ without_reason (leb (length G.rules) r) refusal.NoSuchName None a.is_rule refl)
    (ap Stands e)

-- at a point after the last one it is refused
pub standing_beyond : (G : Ground) (xs : List State) (r i c d : ℕ) → AskedStanding G (length xs) r i c → length xs < d →
    told G xs (StandingAt r i d) ≡ Err refusal.NoSuchPoint
standing_beyond G xs r i c d a past =
    ap (λ why. outcome why (answer G xs (StandingAt r i d)))
    (without_reason (leb (length G.rules) r) refusal.NoSuchName _ a.is_rule
    (without_reason (outside i 1 (length xs)) refusal.NoSuchState _ (inside i 1 (length xs) a.state_from (omega (arith, a.point_from, a.point_to)))
    (first_reason (outside d i (length xs)) refusal.NoSuchPoint None (beyond d i (length xs) past))))

counts_same : (t u : Tally) → ◌≡◌ {A = Answer} (Counts t) (Counts u) → t ≡ u
counts_same t u e = cc

pub tally_told : (G : Ground) (xs : List State) (r : ℕ) (t : Tally) → TallyIs G xs r t →
    (r < length G.rules) × (tallied (G.labelled xs) (get_or G.rules r no_rule) (length xs) (length xs) ≡ t)
tally_told G xs r t e =
    let p = outcome_ok (refusal_of G xs (TallyOf r)) (answer G xs (TallyOf r)) (Counts t) (sym e) in
    (leb-false (length G.rules) r (no_reason (leb (length G.rules) r) refusal.NoSuchName None p.0).0, counts_same _ t (sym p.1))

pub tally_tells : (G : Ground) (xs : List State) (r : ℕ) → r < length G.rules → TallyIs G xs r (tallied (G.labelled xs) (get_or G.rules r no_rule) (length xs) (length xs))
tally_tells G xs r known = ap (λ why. outcome why (answer G xs (TallyOf r))) (without_reason (leb (length G.rules) r) refusal.NoSuchName None (lt-leb (length G.rules) r known) refl)

-- ── Notices ──

pub notice_told : (G : Ground) (xs : List State) (c k : ℕ) → 1 ≤ c → c ≤ length xs → told G xs (NoticeOf c k) ≡ Ok (Tells (slice_get (notices (G.labelled xs) G.rules c) k))
notice_told G xs c k one high =
    ap (λ why. outcome why (answer G xs (NoticeOf c k))) (without_reason (outside c 1 (length xs)) refusal.NoSuchPoint None (inside c 1 (length xs) one high) refl)

tells_same : (o p : Option Notice) → ◌≡◌ {A = Answer} (Tells o) (Tells p) → o ≡ p
tells_same o p e = cc

-- a notice that is told, or that there is none, with no refusal
pub notice_is : (G : Ground) (xs : List State) (c k : ℕ) (o : Option Notice) → NoticeIs G xs c k o
    → (refusal_of G xs (NoticeOf c k) ≡ None) × (slice_get (notices (G.labelled xs) G.rules c) k ≡ o)
notice_is G xs c k o e =
    let p = outcome_ok (refusal_of G xs (NoticeOf c k)) (answer G xs (NoticeOf c k)) (Tells o) (sym e) in
    (p.0, tells_same _ o (sym p.1))

-- its point is there
pub notice_point : (G : Ground) (xs : List State) (c k : ℕ) (o : Option Notice) → NoticeIs G xs c k o → (1 ≤ c) × (c ≤ length xs)
notice_point G xs c k o e = within c 1 (length xs) (no_reason (outside c 1 (length xs)) refusal.NoSuchPoint None (notice_is G xs c k o e).0).0

pub notice_stands : (G : Ground) (xs : List State) (c k : ℕ) (x : Notice) → NoticeIs G xs c k (Some x) → slice_get (notices (G.labelled xs) G.rules c) k ≡ Some x
notice_stands G xs c k x e = (notice_is G xs c k (Some x) e).1

none_after : (ns : List Notice) (j k : ℕ) → j ≤ k → slice_get ns j ≡ None → slice_get ns k ≡ None
none_after [] j k l e = refl
none_after (x ∷ ns) zero k l e = let z : ◌≡◌ {A = ℕ} 0 1 = cc in absurd (omega arith)
none_after (x ∷ ns) (suc j) zero l e = absurd (omega arith)
none_after (x ∷ ns) (suc j) (suc k) l e = none_after ns j k (omega arith) e

pub no_more_after : (G : Ground) (xs : List State) (c j k : ℕ) → j ≤ k → NoticeIs G xs c j None → NoticeIs G xs c k None
no_more_after G xs c j k l e =
    let p = notice_is G xs c j None e in
    ap₂ outcome p.0 (ap Tells (none_after _ j k l p.1))
