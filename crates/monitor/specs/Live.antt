-- A live monitor, as clauses speak of it: what it stands on, the states of its record, and what it answers.
use Rattle.std.specs.Prelude.{◌≡◌, ℕ, ◌+◌, List, length, Some, None, Option, Result, MatchResult, slice_index_or}
use Rattle.std.specs.List.{slice_get}
use Rattle.logic.specs.declared.types.Rule.{Rule}
use Rattle.logic.specs.declared.types.State.{State}
use Rattle.logic.specs.Tables.{no_rule}
use Rattle.records.specs.declared.growing.Growing as growing
use Rattle.records.specs.declared.readable.Readable as readable
use Rattle.refusals.specs.declared.Refusal.{Refusal}
use Rattle.refusals.specs.declared.Refusal.TheVariants as refusal
use Rattle.table.specs.declared.finished.Table.{Table}
use Rattle.expectations.specs.declared.types.Verdict.{Verdict}
use Rattle.expectations.specs.declared.types.Standing.{Standing}
use Rattle.expectations.specs.declared.types.Notice.{Notice}
use Rattle.expectations.specs.declared.types.Tally.{Tally}
use Rattle.expectations.specs.Expectations.{Labels, verdict, standing, tallied, of_state, from_state, notices}
use Rattle.answers.specs.declared.types.Call.{Call}
use Rattle.answers.specs.declared.types.Call.TheVariants.{Append, LabelAt, StandingAt, TallyOf, NoticeOf}
use Rattle.answers.specs.declared.types.Answer.{Answer}
use Rattle.answers.specs.Answers.{Ground, answer, outcome, refused_by, grown_to}
use Rattle.monitor.specs.Book.{ground_in}
use Rattle.monitor.specs.declared.live.Monitor.{Monitor}

module _ {R : Type 0} {G : growing.Ghosts R} {D : readable.Ghosts R} where
  -- its table with the rules, and its record
  abbrev pub table_of : Monitor R G D → Table
  table_of m = m.book.table

  abbrev pub log_of : Monitor R G D → R
  log_of m = m.log

  -- the states of its record, and for how many the record has room
  abbrev pub states_of : Monitor R G D → List State
  states_of m = D.states m.log

  abbrev pub room_of : Monitor R G D → ℕ
  room_of m = G.room m.log

  -- how many states it has labelled
  abbrev pub count_of : Monitor R G D → ℕ
  count_of m = m.book.count

  -- what its answers stand on
  abbrev pub ground_of : Monitor R G D → Ground
  ground_of m = ground_in m.book (G.room m.log)

  -- its rules, the rule with number r, and the labels of its formulas at the states of its record
  abbrev pub table_rules : Monitor R G D → List Rule
  table_rules m = (ground_of m).rules

  abbrev pub rule_at : Monitor R G D → (r : ℕ) → Rule
  rule_at m r = slice_index_or (table_rules m) r no_rule

  abbrev pub record_labels : Monitor R G D → Labels
  record_labels m = (ground_of m).labelled (states_of m)

  -- its record is its own: it has labelled each of the record's states
  abbrev pub Own : Monitor R G D → Type 0
  Own m = count_of m ≡ length (states_of m)

  -- the count of states, if its record is its own, or the refusal of a record that is not
  abbrev pub CountsOwn : Monitor R G D → Result ℕ Refusal → Type 0
  CountsOwn m result =
      MatchResult result (λ n. (n ≡ length (states_of m)) × Own m) (λ why. (why ≡ refusal.ForeignRecord) × (Own m → ⊥))

  -- it is new, over this table and this record: it has labelled no state
  abbrev pub IsNew : Table → R → Monitor R G D → Type 0
  IsNew table log m = (table_of m ≡ table) × (log_of m ≡ log) × (count_of m ≡ 0)

  -- the notices of point c: on the expectation that rule r has of state s, on all that it has, and of all rules
  abbrev pub state_notices : Monitor R G D → (c r s : ℕ) → List Notice
  state_notices m c r s = of_state (record_labels m) c r (rule_at m r) s

  abbrev pub rule_notices : Monitor R G D → (c r : ℕ) → List Notice
  rule_notices m c r = from_state (record_labels m) c r (rule_at m r) c 1

  abbrev pub point_notices : Monitor R G D → (c : ℕ) → List Notice
  point_notices m c = notices (record_labels m) (table_rules m) c

  -- ── What it answers ──

  -- the refusal that fits the call first, if one does
  abbrev pub refusal_at : Monitor R G D → Call → Option Refusal
  refusal_at m call = refused_by (count_of m) (ground_of m) (states_of m) call

  -- a call is let pass if no refusal fits it, and refused for the first that does
  abbrev pub Admits : {A : Type 0} → Monitor R G D → Call → Result A Refusal → Type 0
  Admits m call result = MatchResult result (λ _. refusal_at m call ≡ None) (λ why. refusal_at m call ≡ Some why)

  -- v, or the refusal that fits the call first
  abbrev pub unless_refused : {A : Type 0} → Monitor R G D → Call → A → Result A Refusal
  unless_refused m call v = outcome (refusal_at m call) v

  -- the answer to a call
  abbrev pub reply_of : Monitor R G D → Call → Result Answer Refusal
  reply_of m call = unless_refused m call (answer (ground_of m) (states_of m) call)

  -- the label of formula f at state i as point c reads it
  abbrev pub verdict_at : Monitor R G D → (f i c : ℕ) → Verdict
  verdict_at m f i c = verdict (record_labels m f i) c

  -- the standing of rule r's expectation of state i at point c
  abbrev pub standing_at : Monitor R G D → (r i c : ℕ) → Standing
  standing_at m r i c = standing (record_labels m) (rule_at m r) i c

  -- rule r's tally as the last point reads it
  abbrev pub tally_at : Monitor R G D → (r : ℕ) → Tally
  tally_at m r = tallied (record_labels m) (rule_at m r) (length (states_of m)) (length (states_of m))

  -- the notice of point c with number k, if there is one
  abbrev pub notice_at : Monitor R G D → (c k : ℕ) → Option Notice
  notice_at m c k = slice_get (point_notices m c) k

  -- what the calls answer: the value, or the refusal that fits first
  abbrev pub label_answer : Monitor R G D → (f i c : ℕ) → Result Verdict Refusal
  label_answer m f i c = unless_refused m (LabelAt f i c) (verdict_at m f i c)

  abbrev pub standing_answer : Monitor R G D → (r i c : ℕ) → Result Standing Refusal
  standing_answer m r i c = unless_refused m (StandingAt r i c) (standing_at m r i c)

  abbrev pub tally_answer : Monitor R G D → (r : ℕ) → Result Tally Refusal
  tally_answer m r = unless_refused m (TallyOf r) (tally_at m r)

  abbrev pub notice_answer : Monitor R G D → (c k : ℕ) → Result (Option Notice) Refusal
  notice_answer m c k = unless_refused m (NoticeOf c k) (notice_at m c k)

  -- of an append, the number that the state x gets
  abbrev pub append_answer : Monitor R G D → State → Result ℕ Refusal
  append_answer m x = unless_refused m (Append x) (length (states_of m) + 1)

  -- the states of its record after a call that is carried out
  abbrev pub states_after : Monitor R G D → Call → List State
  states_after m call = grown_to (count_of m) (ground_of m) (states_of m) call
