-- What was answered stays so: after whatever calls follow, and among the answers to one list of calls.
use Rattle.std.specs.Prelude.{◌≡◌, ℕ, ◌<◌, ◌≤◌, ◌⊎◌, List, length, Ok, Err, Option, Result, ◌≢◌, slice_index_or}
use Rattle.logic.specs.declared.types.State.{State}
use Rattle.logic.specs.States.{blank}
use Rattle.refusals.specs.declared.Refusal.{Refusal}
use Rattle.refusals.specs.declared.Refusal.TheVariants as refusal
use Rattle.expectations.specs.declared.types.Verdict.{Verdict}
use Rattle.expectations.specs.declared.types.Verdict.TheVariants as is
use Rattle.expectations.specs.declared.types.Standing.{Standing}
use Rattle.expectations.specs.declared.types.Standing.TheVariants.{Pending}
use Rattle.expectations.specs.declared.types.Notice.{Notice}
use Rattle.expectations.specs.declared.types.Tally.{Tally}
use Rattle.expectations.specs.Counted.{NoFewer}
use Rattle.answers.specs.declared.types.Call.{Call}
use Rattle.answers.specs.declared.types.Call.TheVariants.{Append, LabelAt, StandingAt, TallyOf, NoticeOf}
use Rattle.answers.specs.declared.types.Answer.{Answer}
use Rattle.answers.specs.declared.types.Answer.TheVariants.{Reads, Stands, Counts, Tells}
use Rattle.answers.specs.Answers.{Ground, accepted}
use Rattle.answers.specs.Law.{foreign, LabelIs, StandingIs, TallyIs, NoticeIs}

-- What is answered after the accepted states xs stays so after whatever calls cs follow: what was decided is decided so, with the
-- same date, at every later point; what a point read or told, it reads and tells for good; and of what a tally counted as raised,
-- fulfilled and violated none is lost.
pub record Lasts (G : Ground) (xs : List State) : Type 0 where
  pub labels : (cs : List Call) (f i c d : ℕ) (v : Verdict) → LabelIs G xs f i c v → (v ≢ is.Unknown) →
      c ≤ d → d ≤ length (accepted G xs cs) → LabelIs G (accepted G xs cs) f i d v
  pub standings : (cs : List Call) (r i c d : ℕ) (s : Standing) → StandingIs G xs r i c s → (s ≢ Pending) →
      c ≤ d → d ≤ length (accepted G xs cs) → StandingIs G (accepted G xs cs) r i d s
  pub old_labels : (cs : List Call) (f i c : ℕ) (v : Verdict) → LabelIs G xs f i c v → LabelIs G (accepted G xs cs) f i c v
  pub old_standings : (cs : List Call) (r i c : ℕ) (s : Standing) → StandingIs G xs r i c s → StandingIs G (accepted G xs cs) r i c s
  pub old_notices : (cs : List Call) (c k : ℕ) (x : Option Notice) → NoticeIs G xs c k x → NoticeIs G (accepted G xs cs) c k x
  pub tallies : (cs : List Call) (r : ℕ) (t u : Tally) → TallyIs G xs r t → TallyIs G (accepted G xs cs) r u → NoFewer t u

-- ── Among the answers to one list of calls ──

-- call k of the list is this one
abbrev pub CallIs : List Call → (k : ℕ) → Call → Type 0
CallIs calls k call = (k < length calls) × (slice_index_or calls k (Append blank) ≡ call)

-- it was answered so
abbrev pub AnswerIs : List (Result Answer Refusal) → (k : ℕ) → Answer → Type 0
AnswerIs answers k a = slice_index_or answers k foreign ≡ Ok a

-- it was refused for its point
abbrev pub PointRefused : List (Result Answer Refusal) → (k : ℕ) → Type 0
PointRefused answers k = slice_index_or answers k foreign ≡ Err refusal.NoSuchPoint

-- Nothing that was decided is taken back. Of two asks for the standing of one rule and state, the later (k) at the same or a later
-- point: if the first (j) was answered with a decision, so is the second, with the same one and its date, or it is refused for its
-- point. Likewise of labels that were decided, and of the notice with one number of one point. Of two asks for a rule's tally the
-- later counts no fewer as raised, fulfilled and violated.
pub record NeverTakenBack (calls : List Call) (answers : List (Result Answer Refusal)) : Type 0 where
  pub standings : (j k r i c d : ℕ) (s : Standing) → j ≤ k → CallIs calls j (StandingAt r i c) → CallIs calls k (StandingAt r i d) → c ≤ d →
      (s ≢ Pending) → AnswerIs answers j (Stands s) → AnswerIs answers k (Stands s) ⊎ PointRefused answers k
  pub labels : (j k f i c d : ℕ) (v : Verdict) → j ≤ k → CallIs calls j (LabelAt f i c) → CallIs calls k (LabelAt f i d) → c ≤ d →
      (v ≢ is.Unknown) → AnswerIs answers j (Reads v) → AnswerIs answers k (Reads v) ⊎ PointRefused answers k
  pub notices : (j k c m : ℕ) (x : Option Notice) → j ≤ k → CallIs calls j (NoticeOf c m) → CallIs calls k (NoticeOf c m) →
      AnswerIs answers j (Tells x) → AnswerIs answers k (Tells x)
  pub tallies : (j k r : ℕ) (t u : Tally) → j ≤ k → CallIs calls j (TallyOf r) → CallIs calls k (TallyOf r) →
      AnswerIs answers j (Counts t) → AnswerIs answers k (Counts u) → NoFewer t u
