-- The state that a trace line means, and what a text that should begin with one is read as.
use Rattle.std.specs.Prelude.{◌≡◌, ℕ, List, Result, MatchResult}
use Rattle.logic.specs.declared.types.Reference.{Reference}
use Rattle.logic.specs.declared.types.State.{State}
use Rattle.faults.specs.declared.line.LineFault.{LineFault}
use Rattle.fields.specs.Kinds.{Fits, Takes, Refuses}
use Rattle.fields.specs.declared.lines.Taken.{Taken}
use Rattle.traces.specs.declared.numbers.Numbers.{Numbers}
use Rattle.traces.specs.Traces.{trace_kind}

-- the reference that two numbers give
abbrev pub reference : (kind target : ℕ) → Reference
reference kind target = record { kind = kind; target = target }

-- the state that the numbers of a line give
abbrev pub meaning : Numbers → State
meaning v = record {
  signals = v.signals;
  nominal = v.nominal;
  first = reference v.first_kind v.first_target;
  second = reference v.second_kind v.second_target;
}

-- The text's first line passes after a count of states and means the state x, and `rest` follows it.
pub record Passes (count : ℕ) (x : State) (text rest : List ℕ) : Type 0 where
  pub numbers : Numbers
  pub fits : Fits (trace_kind count) text numbers rest
  pub means : x ≡ meaning numbers

-- The text's first line is taken after a count of states and means the state x; with its end it is `used` bytes of the text.
pub record StateTaken (text : List ℕ) (count : ℕ) (x : State) (used : ℕ) : Type 0 where
  pub numbers : Numbers
  pub takes : Takes (trace_kind count) text numbers used
  pub means : x ≡ meaning numbers

-- What a text is read as after a count of states. The place of a refusal is line 1.
abbrev pub Reads : List ℕ → (count : ℕ) → Result (Taken State) LineFault → Type 0
Reads text count r =
    MatchResult r (λ a. StateTaken text count a.value a.used) (λ e. Refuses (trace_kind count) text 1 e)

-- A text is read in one way only.
abbrev pub OneReading : Type 0
OneReading = (text : List ℕ) (count : ℕ) (r s : Result (Taken State) LineFault) → Reads text count r → Reads text count s → r ≡ s
