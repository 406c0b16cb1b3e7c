-- What a call answers.
use Rattle.std.specs.Prelude.{◌≡◌, ℕ, List, [], ◌∷◌, ◌++◌, length, drop, Some, None, Option}
use Rattle.logic.specs.declared.types.Formula.{Formula}
use Rattle.logic.specs.declared.types.Rule.{Rule}
use Rattle.logic.specs.declared.types.State.{State}
use Rattle.faults.specs.Refusals.{Refusal as Told, refusal}
use Rattle.faults.specs.declared.read.ReadFault.{ReadFault}
use Rattle.refusals.specs.declared.Refusal.{Refusal}
use Rattle.refusals.specs.Numbers.{told}
use Rattle.rulestexts.specs.Texts.{Whole, Refused}
use Rattle.textrecord.specs.Listed.{states_of}
use Rattle.answers.specs.declared.types.Call.TheVariants.{Append}
use Rattle.answers.specs.Answers.{Ground, refusal_of}
use Rattle.monitor.specs.Book.{ground}
use Rattle.bench_calls.specs.declared.outcome.Outcome.{Outcome}

-- nothing is refused
abbrev pub done : (count : ℕ) → Outcome
done n = record { refused = 0; place = 0; count = n }

-- the number and the place of a refusal
abbrev pub stopped : Told → (count : ℕ) → Outcome
stopped t n = record { refused = t.number; place = t.place; count = n }

-- the text begins with a rules text of so many bytes, or is refused
pub data RulesRead (text : List ℕ) (o : Outcome) : Type 0 where
  taken : (formulas : List Formula) (rules : List Rule) (used : ℕ) → Whole text formulas rules used → o ≡ done used → RulesRead text o
  refused : (e : ReadFault) → Refused text e → o ≡ stopped (refusal e) 0 → RulesRead text o

-- ── appending one by one ──

-- a refusal ends it, after so many states; without one it goes on
abbrev pub or_stopped : Option Refusal → (count : ℕ) → (later : Outcome) → Outcome
or_stopped (Some why) n later = stopped (told why) n
or_stopped None n later = later

-- what is answered of states that are appended after the accepted states xs: how many are accepted, and the refusal of the first
-- that is not
abbrev pub appended : Ground → (xs more : List State) → Outcome
appended G xs [] = done (length xs)
appended G xs (x ∷ more) = or_stopped (refusal_of G xs (Append x)) (length xs) (appended G (xs ++ x ∷ []) more)

-- the same of the trace lines that follow a rules text, over a record of 256 rows
pub data TextAppended (text : List ℕ) (o : Outcome) : Type 0 where
  taken : (formulas : List Formula) (rules : List Rule) (used : ℕ) → Whole text formulas rules used
      → o ≡ appended (ground formulas rules 256) [] (states_of (drop used text)) → TextAppended text o
  refused : (e : ReadFault) → Refused text e → o ≡ stopped (refusal e) 0 → TextAppended text o
