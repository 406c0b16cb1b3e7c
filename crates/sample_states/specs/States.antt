-- The states that tests are made of.
use Rattle.std.specs.Prelude.{ℕ}
use Rattle.logic.specs.declared.types.Reference.{Reference}
use Rattle.logic.specs.declared.types.State.{State}
use Rattle.logic.specs.States.{no_reference}

abbrev pub reference : (kind target : ℕ) → Reference
reference kind target = record { kind = kind; target = target }

abbrev pub with_nominal : (signals nominal : ℕ) → State
with_nominal signals nominal = record { signals = signals; nominal = nominal; first = no_reference; second = no_reference }

abbrev pub with_references : (first second : Reference) → State
with_references first second = record { signals = 0; nominal = 0; first = first; second = second }
