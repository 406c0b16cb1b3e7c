-- The law of a monitor: what holds of every list of calls on a new monitor, and of the answers after any accepted states.
use Rattle.std.specs.Prelude.{◌≡◌, ℕ, suc, ◌+◌, ◌<◌, ◌≤◌, false, List, [], ◌∷◌, ◌++◌, length, take, Some, None, Ok, Err, Option, Result, ◌≢◌, slice_index_or}
use Rattle.logic.specs.declared.types.State.{State}
use Rattle.logic.specs.States.{Trace, Begins, blank}
use Rattle.logic.specs.Lawful.{Lawful, LawfulRecord}
use Rattle.logic.specs.Logic.{Holds}
use Rattle.refusals.specs.declared.Refusal.{Refusal}
use Rattle.refusals.specs.declared.Refusal.TheVariants as refusal
use Rattle.lawful.specs.Unlawful.{MayFollow}
use Rattle.expectations.specs.declared.types.Label.TheVariants.{TrueFrom, FalseFrom}
use Rattle.expectations.specs.declared.types.Verdict.{Verdict}
use Rattle.expectations.specs.declared.types.Verdict.TheVariants as is
use Rattle.expectations.specs.declared.types.Standing.{Standing}
use Rattle.expectations.specs.declared.types.Standing.TheVariants.{Pending}
use Rattle.expectations.specs.declared.types.Notice.{Notice}
use Rattle.expectations.specs.declared.types.Tally.{Tally}
use Rattle.expectations.specs.Laws.{InOrder, Happens, Grows, Before}
use Rattle.expectations.specs.Counted.{Counts as CountsTold, NoFewer}
use Rattle.answers.specs.declared.types.Call.{Call}
use Rattle.answers.specs.declared.types.Call.TheVariants.{Append, LabelAt, StandingAt, TallyOf, NoticeOf}
use Rattle.answers.specs.declared.types.Answer.{Answer}
use Rattle.answers.specs.declared.types.Answer.TheVariants.{Reads, Stands, Counts, Tells}
use Rattle.answers.specs.Answers.{Ground, refusal_of, told, accepted}

abbrev pub foreign : Result Answer Refusal
foreign = Err refusal.ForeignRecord

-- The answers to a list of calls on a new monitor, and the states with which its record ends. Over a record that starts with
-- states every call is refused as over a foreign record, and nothing changes. Over one that starts empty the record ends
-- with the accepted states, and each call is answered as it is after the states accepted before it.
pub record Ran (G : Ground) (start : List State) (calls : List Call) (answers : List (Result Answer Refusal)) (ends : List State) : Type 0 where
  pub foreign_record : 0 < length start → (ends ≡ start) × ((k : ℕ) → k < length calls → slice_index_or answers k foreign ≡ foreign)
  pub own_record : length start ≡ 0 →
      (ends ≡ accepted G [] calls) ×
      ((k : ℕ) → k < length calls → slice_index_or answers k foreign ≡ told G (accepted G [] (take k calls)) (slice_index_or calls k (Append blank)))

-- ── What the four queries answer after the accepted states xs ──

-- the label of formula f at state i reads v at point c
abbrev pub LabelIs : Ground → List State → (f i c : ℕ) → Verdict → Type 0
LabelIs G xs f i c v = told G xs (LabelAt f i c) ≡ Ok (Reads v)

-- rule r's expectation of state i stands as s at point c
abbrev pub StandingIs : Ground → List State → (r i c : ℕ) → Standing → Type 0
StandingIs G xs r i c s = told G xs (StandingAt r i c) ≡ Ok (Stands s)

-- rule r's tally is t
abbrev pub TallyIs : Ground → List State → (r : ℕ) → Tally → Type 0
TallyIs G xs r t = told G xs (TallyOf r) ≡ Ok (Counts t)

-- the notice of point c with number k is x; or there is none
abbrev pub NoticeIs : Ground → List State → (c k : ℕ) → Option Notice → Type 0
NoticeIs G xs c k x = told G xs (NoticeOf c k) ≡ Ok (Tells x)

-- x is exactly one of the notices of point c; x is none of them
abbrev pub ToldOnce : Ground → List State → Notice → (c : ℕ) → Type 0
ToldOnce G xs x c = (k : ℕ) × NoticeIs G xs c k (Some x) × ((j : ℕ) → NoticeIs G xs c j (Some x) → j ≡ k)

abbrev pub NeverTold : Ground → List State → Notice → (c : ℕ) → Type 0
NeverTold G xs x c = (k : ℕ) → told G xs (NoticeOf c k) ≢ Ok (Tells (Some x))

-- what a notice tells is so at point c, by the labels after the states xs
abbrev pub HappensAt : Ground → List State → Notice → (c : ℕ) → Type 0
HappensAt G xs x c = Happens (length xs) (G.labelled xs) G.rules x c

-- an append that the monitor takes
abbrev pub Takes : Ground → List State → State → Type 0
Takes G xs x = refusal_of G xs (Append x) ≡ None

-- the states xs with one more, x
abbrev pub with_one_more : List State → State → List State
with_one_more xs x = xs ++ x ∷ []

-- formula f holds at state i of every lawful endless trace that begins with the states xs, whatever the variable is bound to; or
-- on none of them
abbrev pub AlwaysHolds : Ground → List State → (f i : ℕ) → Type 0
AlwaysHolds G xs f i = (u : Trace) → Lawful u → Begins xs u → (v : ℕ) → Holds u v i (G.trees f)

abbrev pub NeverHolds : Ground → List State → (f i : ℕ) → Type 0
NeverHolds G xs f i = (u : Trace) → Lawful u → Begins xs u → (v : ℕ) → Holds u v i (G.trees f) → ⊥

-- What holds of the answers over the accepted states xs.
pub record Judged (G : Ground) (xs : List State) : Type 0 where
  pub lawful : LawfulRecord xs
  -- a state is accepted exactly if it may follow and the record has room
  pub takes_what_may_follow : (x : State) → Takes G xs x → MayFollow xs x × (length xs < G.capacity)
  pub may_follow_is_taken : (x : State) → MayFollow xs x → length xs < G.capacity → Takes G xs x
  -- a formula that is labelled true is true on every lawful endless trace that begins with the accepted states; one that is
  -- labelled false is false on all of them
  pub true_is_so : (f i c : ℕ) → LabelIs G xs f i c is.True → AlwaysHolds G xs f i
  pub false_is_not : (f i c : ℕ) → LabelIs G xs f i c is.False → NeverHolds G xs f i
  -- no label is dated before its state
  pub dated : InOrder (length xs) (G.labelled xs)
  -- after one more accepted append a label that was decided is the same, from the same point; every other is unknown, or
  -- decided from the new state on
  pub labels_grow : (x : State) → Takes G xs x → Grows (length xs) (G.labelled xs) (G.labelled (with_one_more xs x))
  -- so every point reads as before, and what was decided is decided so at the new point
  pub points_stay : (x : State) → Takes G xs x → (f i c : ℕ) (v : Verdict) → LabelIs G xs f i c v → LabelIs G (with_one_more xs x) f i c v
  pub verdicts_stay : (x : State) → Takes G xs x → (f i c : ℕ) (v : Verdict) → LabelIs G xs f i c v → (v ≢ is.Unknown) →
      LabelIs G (with_one_more xs x) f i (suc (length xs)) v
  pub standings_stay : (x : State) → Takes G xs x → (r i c : ℕ) → 1 ≤ i → i ≤ c → c ≤ length xs →
      told G (with_one_more xs x) (StandingAt r i c) ≡ told G xs (StandingAt r i c)
  pub standings_last : (x : State) → Takes G xs x → (r i c : ℕ) (s : Standing) → StandingIs G xs r i c s → (s ≢ Pending) →
      StandingIs G (with_one_more xs x) r i (suc (length xs)) s
  pub notices_stay : (x : State) → Takes G xs x → (c k : ℕ) → 1 ≤ c → c ≤ length xs →
      told G (with_one_more xs x) (NoticeOf c k) ≡ told G xs (NoticeOf c k)
  -- each expectation raised is open, fulfilled or violated; raised, fulfilled and violated are the numbers of such notices told
  -- at the points so far, and one more accepted append makes none of them fewer
  pub tallies_sum : (r : ℕ) (t : Tally) → TallyIs G xs r t → t.raised ≡ t.pending + (t.fulfilled + t.violated)
  pub tallies_told : (r : ℕ) (t : Tally) → TallyIs G xs r t → CountsTold t (G.labelled xs) G.rules (length xs) r
  pub tallies_grow : (x : State) → Takes G xs x → (r : ℕ) (t u : Tally) → TallyIs G xs r t → TallyIs G (with_one_more xs x) r u → NoFewer t u
  -- each raising and each decision is told exactly once, at its date, and nothing else is
  pub notices_once : (x : Notice) (c : ℕ) → 1 ≤ c → c ≤ length xs →
      (HappensAt G xs x c → ToldOnce G xs x c) × ((HappensAt G xs x c → ⊥) → NeverTold G xs x c)
  pub notices_happen : (c k : ℕ) (x : Notice) → NoticeIs G xs c k (Some x) → HappensAt G xs x c
  pub notices_at_one_point : (c d j k : ℕ) (x : Notice) → NoticeIs G xs c j (Some x) → NoticeIs G xs d k (Some x) → (c ≡ d) × (j ≡ k)
  pub notices_in_order : (c j k : ℕ) (x y : Notice) → j < k → NoticeIs G xs c j (Some x) → NoticeIs G xs c k (Some y) → Before x y
  pub no_gaps : (c j k : ℕ) → j ≤ k → NoticeIs G xs c j None → NoticeIs G xs c k None

-- What the labels of a ground obey: no label of a state is dated before it; labels grow as they may; and what is decided is so.
pub record Founded (G : Ground) : Type 0 where
  pub dated : (xs : List State) → LawfulRecord xs → length xs ≤ 256 → InOrder (length xs) (G.labelled xs)
  pub grows : (xs : List State) (x : State) → length xs < 256 → LawfulRecord xs → LawfulRecord (xs ++ x ∷ []) →
      Grows (length xs) (G.labelled xs) (G.labelled (xs ++ x ∷ []))
  pub sound : (xs : List State) → LawfulRecord xs → length xs ≤ 256 → (u : Trace) → Lawful u → Begins xs u → (f i d : ℕ) → G.loose f ≡ false → 1 ≤ i → i ≤ length xs →
      (v : ℕ) → (G.labelled xs f i ≡ TrueFrom d → Holds u v i (G.trees f)) × (G.labelled xs f i ≡ FalseFrom d → Holds u v i (G.trees f) → ⊥)
