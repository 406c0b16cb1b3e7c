-- What watch prints of an input: the notices of each state as it is accepted, and then the end line or the first refusal.
use Rattle.std.specs.Prelude.{◌≡◌, ℕ, ◌+◌, ◌<◌, ◌≤◌, ◌⊎◌, List, [], ◌∷◌, ◌++◌, map, length, drop, Some, None, Ok, Err, Result}
use Rattle.logic.specs.declared.types.Formula.{Formula}
use Rattle.logic.specs.declared.types.Rule.{Rule}
use Rattle.logic.specs.declared.types.State.{State}
use Rattle.faults.specs.declared.line.LineFault.{LineFault}
use Rattle.faults.specs.declared.read.ReadFault.{ReadFault}
use Rattle.faults.specs.Refusals.{of_line, refusal}
use Rattle.refusals.specs.declared.Refusal.{Refusal}
use Rattle.refusals.specs.Numbers.{told}
use Rattle.fields.specs.Kinds.{Refuses}
use Rattle.traces.specs.Traces.{trace_kind}
use Rattle.traces.specs.Meanings.{Passes, StateTaken}
use Rattle.rulestexts.specs.Texts.{Whole}
use Rattle.rulestexts.specs.Texts as rulesText
use Rattle.expectations.specs.declared.types.Notice.{Notice}
use Rattle.expectations.specs.Expectations.{notices}
use Rattle.answers.specs.declared.types.Call.TheVariants.{Append}
use Rattle.answers.specs.Answers.{Ground, refusal_of}
use Rattle.records.specs.declared.growing.Growing as growing
use Rattle.records.specs.declared.readable.Readable as readable
use Rattle.table.specs.declared.finished.Table.{Table}
use Rattle.table.specs.Tables.{formulas_in, rules_in}
use Rattle.monitor.specs.declared.live.Monitor.{Monitor}
use Rattle.monitor.specs.Book.{ground, ground_on}
use Rattle.monitor.specs.Live.{states_of, ground_of, state_notices}
use Rattle.watch_lib.specs.declared.lines.Line.{Line}
use Rattle.watch_lib.specs.declared.lines.Line.TheVariants.{Told, Refused, End}
use Rattle.watch_lib.specs.Sums.{summed}

-- the notices of the last of the states xs, a line each
abbrev pub point_lines : Ground → List State → List Line
point_lines G xs = map (Told (length xs)) (notices (G.labelled xs) G.rules (length xs))

-- the end line after the states xs
abbrev pub closing_line : Ground → List State → Line
closing_line G xs = End (length xs) (summed (G.labelled xs) (length xs) G.rules)

-- The text `start` begins with trace lines of states that are all accepted, after which a text is left; the lines are those
-- that these states give.
pub data Reaches (G : Ground) (start : List ℕ) : List State → List ℕ → List Line → Type 0 where
  none : Reaches G start [] start []
  more : {xs : List State} {text : List ℕ} {lines : List Line} {x : State} {rest : List ℕ} → Reaches G start xs text lines
      → Passes (length xs) x text rest → refusal_of G xs (Append x) ≡ None
      → Reaches G start (xs ++ x ∷ []) rest (lines ++ point_lines G (xs ++ x ∷ []))

-- The first line of the text is refused after the accepted states xs: it is no line of the next state, or the state is not
-- accepted.
abbrev pub NotTaken : Ground → List State → (text : List ℕ) → (number : ℕ) → Type 0
NotTaken G xs text n =
    ((e : LineFault) × Refuses (trace_kind (length xs)) text 1 e × (n ≡ (of_line e).number)) ⊎
    ((x : State) × (rest : List ℕ) × (why : Refusal) × Passes (length xs) x text rest × (refusal_of G xs (Append x) ≡ Some why) × (n ≡ (told why).number))

-- the last line, after the accepted states xs, where a text is left whose first line has the number `place`
abbrev pub Closes : Ground → List State → (text : List ℕ) → (place : ℕ) → Line → Type 0
Closes G xs text place (Told c x) = ⊥
Closes G xs text place (Refused n l) = (0 < length text) × (l ≡ place) × NotTaken G xs text n
Closes G xs text place (End n t) = (length text ≡ 0) × (End n t ≡ closing_line G xs)

-- what is printed of a text of trace lines, the first of which has the number `place`
pub record Traced (G : Ground) (text : List ℕ) (place : ℕ) (lines : List Line) : Type 0 where
  pub states : List State
  pub rest : List ℕ
  pub before : List Line
  pub last : Line
  pub reaches : Reaches G text states rest before
  pub closes : Closes G states rest (place + length states) last
  pub all : lines ≡ before ++ last ∷ []

-- What is printed of an input. It may have 32768 bytes, `MOST_BYTES` of src/watch.rt; a longer one gets 9, the number of
-- `MemoryTooShort`, at place 0.
pub data Watched (input : List ℕ) (lines : List Line) : Type 0 where
  too_long : 32768 < length input → lines ≡ Refused 9 0 ∷ [] → Watched input lines
  unruled : length input ≤ 32768 → (e : ReadFault) → rulesText.Refused input e → lines ≡ Refused (refusal e).number (refusal e).place ∷ [] → Watched input lines
  traced : length input ≤ 32768 → (formulas : List Formula) (rules : List Rule) (used : ℕ) → Whole input formulas rules used
      → Traced (ground formulas rules 256) (drop used input) (length formulas + length rules + 3) lines → Watched input lines

-- ── what the parts of the program do ──

-- a line for each of these notices of point c is added
abbrev pub Adds : (c : ℕ) → List Notice → (old new : List Line) → Type 0
Adds c xs old new = new ≡ old ++ map (Told c) xs

-- a line, which has the number `place`, is taken, with the state in it and its count of bytes, or not, with the line of output that tells so
abbrev pub Steps : Ground → List State → (text : List ℕ) → (place : ℕ) → Result ℕ Line → List State → Type 0
Steps G xs text place (Ok used) ys =
    (x : State) × StateTaken text (length xs) x used × (refusal_of G xs (Append x) ≡ None) × (ys ≡ xs ++ x ∷ [])
Steps G xs text place (Err line) ys = (n : ℕ) × NotTaken G xs text n × (line ≡ Refused n place) × (ys ≡ xs)

-- where a rules text of so many bytes, with its table, begins an input: what is printed of the trace lines after it, over a record
-- with room for so many states
abbrev pub TracedAfter : Table → (used : ℕ) → (input : List ℕ) → (room : ℕ) → List Line → Type 0
TracedAfter table used input room lines =
    Traced (ground_on table room) (drop used input) (length (formulas_in table) + length (rules_in table) + 3) lines

module _ {R : Type 0} {G : growing.Ghosts R} {D : readable.Ghosts R} where
  -- a line for each notice that point c has on the expectation that rule r has of state s is added
  abbrev pub AddsOfState : Monitor R G D → (c r s : ℕ) → (old new : List Line) → Type 0
  AddsOfState m c r s old new = Adds c (state_notices m c r s) old new

  -- a monitor's step through one line: it was m and is n
  abbrev pub MonitorSteps : Monitor R G D → (text : List ℕ) → (place : ℕ) → Result ℕ Line → Monitor R G D → Type 0
  MonitorSteps m text place result n = Steps (ground_of m) (states_of m) text place result (states_of n)

  -- so many bytes of the text were used, one at least, and there is one state more
  abbrev pub Advances : Monitor R G D → (text : List ℕ) → (used : ℕ) → Monitor R G D → Type 0
  Advances m text used n = (1 ≤ used) × (used ≤ length text) × (length (states_of n) ≡ length (states_of m) + 1)
