-- The states of a trace text.
use Rattle.std.specs.Prelude.{◌≡◌, ℕ, zero, suc, ◌+◌, Bool, true, false, cond, ◌&&◌, List, [], ◌∷◌, length, drop, ◌==◌, nat_le, nat_lt}
use Rattle.std.specs.Str.Parse.{digits_value}
use Rattle.logic.specs.declared.types.State.{State}
use Rattle.fields.specs.Lines.{line_limit, number_limit}
use Rattle.fields.specs.Runs.{Run}
use Rattle.traces.specs.declared.numbers.Numbers.{Numbers}
use Rattle.traces.specs.Traces.{trace_line}
use Rattle.traces.specs.Meanings.{meaning, Passes}

-- ── what the list is ──

-- The list is that of the leading lines that pass: the line after them does not.
pub record Listed (text : List ℕ) (states : List State) : Type 0 where
  pub rest : List ℕ
  pub lines : Run Passes 0 states text rest
  pub ended : (q : State) (u : List ℕ) → Passes (length states) q rest u → ⊥

-- ── the list as a function of the text ──

-- the bytes before the first byte c, and those after it
abbrev pub before : (c : ℕ) → List ℕ → List ℕ
before c [] = []
before c (x ∷ xs) = cond (x == c) [] (x ∷ before c xs)

abbrev pub past : (c : ℕ) → List ℕ → List ℕ
past c [] = []
past c (x ∷ xs) = cond (x == c) xs (past c xs)

-- the number after the first `=`, up to a space; and the fields after the first
abbrev pub number_in : List ℕ → ℕ
number_in line = digits_value 10 (before 32 (past 61 line))

abbrev pub next_in : List ℕ → List ℕ
next_in line = past 32 line

-- the numbers that a line shows, if it is a trace line
unfoldable pub numbers_in : List ℕ → Numbers
numbers_in line = record {
  state = number_in line;
  signals = number_in (next_in line);
  nominal = number_in (next_in (next_in line));
  first_kind = number_in (next_in (next_in (next_in line)));
  first_target = number_in (next_in (next_in (next_in (next_in line))));
  second_kind = number_in (next_in (next_in (next_in (next_in (next_in line)))));
  second_target = number_in (next_in (next_in (next_in (next_in (next_in (next_in line))))));
}

-- the state that they mean
abbrev pub state_in : List ℕ → State
state_in line = meaning (numbers_in line)

unfoldable pub same_bytes : List ℕ → List ℕ → Bool
same_bytes [] [] = true
same_bytes [] (y ∷ ys) = false
same_bytes (x ∷ xs) [] = false
same_bytes (x ∷ xs) (y ∷ ys) = x == y && same_bytes xs ys

unfoldable pub in_range : (count : ℕ) → Numbers → Bool
in_range count v =
    v.state == count + 1 && (nat_le v.state 256 && (nat_le v.signals number_limit && (nat_le v.nominal 255 &&
    (nat_le v.first_kind 15 && (nat_le v.first_target 256 && (nat_le v.second_kind 15 && nat_le v.second_target 256))))))

-- the first line is that of the numbers that it shows, and these are in range after a count of states
unfoldable pub passes : (count : ℕ) → List ℕ → Bool
passes count text =
    nat_le (length (before 10 text)) line_limit && (nat_lt (length (before 10 text)) (length text) &&
    (same_bytes (before 10 text) (trace_line (numbers_in (before 10 text))) && in_range count (numbers_in (before 10 text))))

-- the states of up to `room` leading lines, after a count of states
unfoldable pub states_from : (room count : ℕ) → List ℕ → List State
states_from zero count text = []
states_from (suc room) count text =
    cond (passes count text)
    (state_in (before 10 text) ∷ states_from room (count + 1) (drop (length (before 10 text) + 1) text))
    []

abbrev pub states_of : List ℕ → List State
states_of text = states_from 256 0 text

-- ── both are the same ──
abbrev pub ListsLines : Type 0
ListsLines = (text : List ℕ) → Listed text (states_of text)

abbrev pub OneList : Type 0
OneList = (text : List ℕ) (xs ys : List State) → Listed text xs → Listed text ys → xs ≡ ys
