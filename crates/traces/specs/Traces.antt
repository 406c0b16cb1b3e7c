-- Trace lines, as they are written.
use Rattle.std.specs.Prelude.{◌≡◌, ℕ, ◌+◌, ◌≤◌, List, [], codes}
use Rattle.fields.specs.Lines.{Small, field, number_limit}
use Rattle.fields.specs.Kinds.{Kind}
use Rattle.traces.specs.declared.numbers.Numbers.{Numbers}

-- the line that shows these numbers
abbrev pub trace_line : Numbers → List ℕ
trace_line v =
    field (codes "s=") v.state
    (field (codes " signals=") v.signals
    (field (codes " mark=") v.nominal
    (field (codes " ka=") v.first_kind
    (field (codes " ta=") v.first_target
    (field (codes " kb=") v.second_kind
    (field (codes " tb=") v.second_target []))))))

-- each number has at most ten digits
pub record Formed (v : Numbers) : Type 0 where
  pub state : Small v.state
  pub signals : Small v.signals
  pub nominal : Small v.nominal
  pub first_kind : Small v.first_kind
  pub first_target : Small v.first_target
  pub second_kind : Small v.second_kind
  pub second_target : Small v.second_target

-- after a count of states: the number of the state is the next one, and each number is in its range
pub record Ranged (count : ℕ) (v : Numbers) : Type 0 where
  pub next : v.state ≡ count + 1
  pub state : v.state ≤ 256
  pub signals : v.signals ≤ number_limit
  pub nominal : v.nominal ≤ 255
  pub first_kind : v.first_kind ≤ 15
  pub first_target : v.first_target ≤ 256
  pub second_kind : v.second_kind ≤ 15
  pub second_target : v.second_target ≤ 256

-- the line of the next state after a count of states
abbrev pub trace_kind : (count : ℕ) → Kind
trace_kind count = record { Value = Numbers; written = trace_line; Formed = Formed; Ranged = Ranged count }
