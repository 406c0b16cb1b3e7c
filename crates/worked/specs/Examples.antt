-- The worked examples, as tables.
use Rattle.std.specs.Prelude.{ℕ, Bool, true, false, List, [], ◌∷◌, ℤ, pos, neg_ℤ}
use Rattle.logic.specs.declared.types.State.{State}
use Rattle.logic.specs.declared.types.Formula.{Formula}
use Rattle.logic.specs.declared.types.Formula.TheVariants.{True, Signal, Nominal, Not, And, Or, Next, Previous, Until, Since, At, Variable, Reference as Refers, Bind, Some}
use Rattle.logic.specs.States.{no_reference}

-- ── States ──

-- a state with these signals, and nothing else
abbrev pub plain : (signals : ℕ) → State
plain x = record { signals = x; nominal = 0; first = no_reference; second = no_reference }

-- and with a nominal
abbrev pub called : (signals nominal : ℕ) → State
called x a = record { signals = x; nominal = a; first = no_reference; second = no_reference }

-- a state with no signal on, and a reference
abbrev pub referring : (kind target : ℕ) → State
referring a t = record { signals = 0; nominal = 0; first = record { kind = a; target = t }; second = no_reference }

-- and the same as its second one
abbrev pub referring_second : (kind target : ℕ) → State
referring_second a t = record { signals = 0; nominal = 0; first = no_reference; second = record { kind = a; target = t } }

abbrev pub minus : ℕ → ℤ
minus n = neg_ℤ (pos n)

-- ── Labels: the label of a formula of a table at a state of a log, as a dated number ──
pub record Labelled : Type 0 where
  pub table : List Formula
  pub states : List State
  pub formula : ℕ
  pub state : ℕ
  pub expected : ℤ

-- `next next signal 0`, with signal 0 on in state 2 only: at state 1 it is false from the third state on.
abbrev pub two_ahead : Labelled
two_ahead = record {
  table = Signal 0 ∷ Next 0 ∷ Next 1 ∷ [];
  states = plain 0 ∷ plain 1 ∷ plain 0 ∷ plain 0 ∷ [];
  formula = 2;
  state = 1;
  expected = minus 254;
}

-- (`at 1` signal 0) `until` (`next` signal 1), where signal 1 is on in state 3, and state 4 carries nominal 1 and has signal 0
-- on: state 1 waits for the nominal, state 2 for state 3, and states 3 and 4 stay unknown.
abbrev pub until_named : (state : ℕ) → (expected : ℤ) → Labelled
until_named i z = record {
  table = Signal 0 ∷ At 1 0 ∷ Signal 1 ∷ Next 2 ∷ Until 1 3 ∷ [];
  states = plain 0 ∷ plain 0 ∷ plain 2 ∷ called 1 1 ∷ [];
  formula = 4;
  state = i;
  expected = z;
}

-- `previous true` is false at the first state, which has none before it.
abbrev pub before_the_first : Labelled
before_the_first = record {
  table = True ∷ Previous 0 ∷ [];
  states = plain 0 ∷ [];
  formula = 1;
  state = 1;
  expected = minus 256;
}

-- `previous signal 0`, with signal 0 on in state 1 only: it looks at the state just before, and no further.
abbrev pub previous_signal : (state : ℕ) → (expected : ℤ) → Labelled
previous_signal i z = record {
  table = Signal 0 ∷ Previous 0 ∷ [];
  states = plain 1 ∷ plain 0 ∷ plain 0 ∷ [];
  formula = 1;
  state = i;
  expected = z;
}

-- `some 2 true` at state 3: false without a reference and with one of another kind, true with one of kind 2, first or second.
abbrev pub some_reference : (third : State) → (expected : ℤ) → Labelled
some_reference q z = record {
  table = True ∷ Some 2 0 ∷ [];
  states = plain 0 ∷ plain 0 ∷ q ∷ [];
  formula = 1;
  state = 3;
  expected = z;
}

-- A state has 32 signals, and signal b is bit b of their number: with signal 31 on and no other, `signal 31` holds and `signal 30`
-- does not.
abbrev pub highest_signal : (signal : ℕ) → (expected : ℤ) → Labelled
highest_signal b z = record {
  table = Signal b ∷ [];
  states = plain 2147483648 ∷ [];
  formula = 0;
  state = 1;
  expected = z;
}

-- `bind previous not variable`: the state before is another one, if there is one.
abbrev pub another_before : (state : ℕ) → (expected : ℤ) → Labelled
another_before i z = record {
  table = Variable ∷ Not 0 ∷ Previous 1 ∷ Bind 2 ∷ [];
  states = plain 0 ∷ plain 0 ∷ [];
  formula = 3;
  state = i;
  expected = z;
}

-- `bind next variable`: the next state is not the one that is bound.
abbrev pub bound_next : Labelled
bound_next = record {
  table = Variable ∷ Next 0 ∷ Bind 1 ∷ [];
  states = plain 0 ∷ plain 0 ∷ [];
  formula = 2;
  state = 1;
  expected = minus 255;
}

-- A log with a rule: when signal 0 is on (formula 0), signal 1 is expected at the next state (formula 2).
abbrev pub rule_table : List Formula
rule_table = Signal 0 ∷ Signal 1 ∷ Next 1 ∷ []

abbrev pub rule_log : List State
rule_log = plain 1 ∷ plain 3 ∷ plain 0 ∷ []

-- the content is true from 2 at state 1, false from 3 at state 2, and unknown at state 3
abbrev pub content : (state : ℕ) → (expected : ℤ) → Labelled
content i z = record { table = rule_table; states = rule_log; formula = 2; state = i; expected = z }

-- `signal 0 and next signal 1`, and the same with `or`: a part that is false settles the one, a part that is true the other.
abbrev pub two_parts : (formula state : ℕ) → (expected : ℤ) → Labelled
two_parts f i z = record {
  table = Signal 0 ∷ Signal 1 ∷ Next 1 ∷ And 0 2 ∷ Or 0 2 ∷ [];
  states = plain 1 ∷ plain 2 ∷ plain 0 ∷ [];
  formula = f;
  state = i;
  expected = z;
}

-- `signal 0 until signal 1`, where signal 0 goes off at state 3 before signal 1 was on: false at all three from there on.
abbrev pub until_broken : (state : ℕ) → (expected : ℤ) → Labelled
until_broken i z = record {
  table = Signal 0 ∷ Signal 1 ∷ Until 0 1 ∷ [];
  states = plain 1 ∷ plain 1 ∷ plain 0 ∷ [];
  formula = 2;
  state = i;
  expected = z;
}

-- The same is true at state 1 once signal 1 is on in state 2, and unknown at the last state while signal 0 lasts.
abbrev pub until_met : (state : ℕ) → (expected : ℤ) → Labelled
until_met i z = record {
  table = Signal 0 ∷ Signal 1 ∷ Until 0 1 ∷ [];
  states = plain 1 ∷ plain 2 ∷ plain 1 ∷ [];
  formula = 2;
  state = i;
  expected = z;
}

-- `signal 0 since signal 1`, with signal 1 on in states 1 and 4 and signal 0 in state 2 only.
abbrev pub since_kept : (state : ℕ) → (expected : ℤ) → Labelled
since_kept i z = record {
  table = Signal 0 ∷ Signal 1 ∷ Since 0 1 ∷ [];
  states = plain 2 ∷ plain 1 ∷ plain 0 ∷ plain 2 ∷ [];
  formula = 2;
  state = i;
  expected = z;
}

-- `true since next signal 0`, with signal 0 on in state 3 only: what is known of an earlier state is known of the later ones.
abbrev pub since_ahead : (state : ℕ) → (expected : ℤ) → Labelled
since_ahead i z = record {
  table = Signal 0 ∷ Next 0 ∷ True ∷ Since 2 1 ∷ [];
  states = plain 0 ∷ plain 0 ∷ plain 1 ∷ [];
  formula = 3;
  state = i;
  expected = z;
}

-- `true since not signal 0`, with signal 0 on in every state: there is no state before the first to look back to.
abbrev pub since_never : (state : ℕ) → (expected : ℤ) → Labelled
since_never i z = record {
  table = Signal 0 ∷ Not 0 ∷ True ∷ Since 2 1 ∷ [];
  states = plain 1 ∷ plain 1 ∷ [];
  formula = 3;
  state = i;
  expected = z;
}

-- `not next signal 0`: unknown as long as its part is, and false once that is true.
abbrev pub not_ahead : (state : ℕ) → (expected : ℤ) → Labelled
not_ahead i z = record {
  table = Signal 0 ∷ Next 0 ∷ Not 1 ∷ [];
  states = plain 0 ∷ plain 1 ∷ [];
  formula = 2;
  state = i;
  expected = z;
}

-- `nominal 7` holds at the state that carries it, and there only.
abbrev pub carrying : (state : ℕ) → (expected : ℤ) → Labelled
carrying i z = record {
  table = Nominal 7 ∷ [];
  states = plain 0 ∷ called 0 7 ∷ plain 0 ∷ [];
  formula = 0;
  state = i;
  expected = z;
}

-- `at 5` signal 0 looks back to state 1, which carries 5; `at 6` signal 0 waits for a state that carries 6.
abbrev pub named_state : (formula state : ℕ) → (expected : ℤ) → Labelled
named_state f i z = record {
  table = Signal 0 ∷ At 5 0 ∷ At 6 0 ∷ [];
  states = called 1 5 ∷ plain 0 ∷ [];
  formula = f;
  state = i;
  expected = z;
}

-- `bind next (true until reference 1)`: a later state refers to this one. State 3 refers to state 1; nobody does to state 2 yet.
-- A second reference serves as well as a first one, and one of another kind or to another state does not.
abbrev pub referred_to : (third : State) → (state : ℕ) → (expected : ℤ) → Labelled
referred_to q i z = record {
  table = Refers 1 ∷ True ∷ Until 1 0 ∷ Next 2 ∷ Bind 3 ∷ [];
  states = plain 0 ∷ plain 0 ∷ q ∷ [];
  formula = 4;
  state = i;
  expected = z;
}

-- `some 1 signal 0` asks for signal 0 in the state that refers, and not in the one referred to.
abbrev pub refers_with_signal : Labelled
refers_with_signal = record {
  table = Signal 0 ∷ Some 1 0 ∷ [];
  states = plain 1 ∷ referring 1 1 ∷ [];
  formula = 1;
  state = 2;
  expected = minus 255;
}

-- `some 1 (true since (signal 0 and variable))`: the state refers to one at which signal 0 is on. State 3 refers to state 1,
-- where it is, and state 4 to state 2, where it is not.
abbrev pub refers_to_signal : (state : ℕ) → (expected : ℤ) → Labelled
refers_to_signal i z = record {
  table = Signal 0 ∷ Variable ∷ And 0 1 ∷ True ∷ Since 3 2 ∷ Some 1 4 ∷ [];
  states = plain 1 ∷ plain 0 ∷ referring 1 1 ∷ referring 1 2 ∷ [];
  formula = 5;
  state = i;
  expected = z;
}

-- The same where state 3 has two references of kind 1, to state 2 and to state 1: one of them serves.
abbrev pub refers_to_either : Labelled
refers_to_either = record {
  table = Signal 0 ∷ Variable ∷ And 0 1 ∷ True ∷ Since 3 2 ∷ Some 1 4 ∷ [];
  states =
      plain 1
      ∷ plain 0
      ∷ record { signals = 0; nominal = 0; first = record { kind = 1; target = 2 }; second = record { kind = 1; target = 1 } }
      ∷ [];
  formula = 5;
  state = 3;
  expected = pos 254;
}

abbrev pub labels : List Labelled
labels =
    two_ahead
    ∷ until_named 1 (pos 253) ∷ until_named 2 (pos 254) ∷ until_named 3 (pos 0) ∷ until_named 4 (pos 0)
    ∷ before_the_first
    ∷ some_reference (plain 0) (minus 254) ∷ some_reference (referring 2 1) (pos 254)
    ∷ another_before 1 (minus 256) ∷ another_before 2 (pos 255)
    ∷ content 1 (pos 255) ∷ content 2 (minus 254) ∷ content 3 (pos 0)
    ∷ []

-- and of every other operator
abbrev pub further_labels : List Labelled
further_labels =
    two_parts 3 1 (pos 255) ∷ two_parts 3 2 (minus 255) ∷ two_parts 3 3 (minus 254)
    ∷ two_parts 4 1 (pos 256) ∷ two_parts 4 2 (minus 254) ∷ two_parts 4 3 (pos 0)
    ∷ until_broken 1 (minus 254) ∷ until_broken 2 (minus 254) ∷ until_broken 3 (minus 254)
    ∷ until_met 1 (pos 255) ∷ until_met 2 (pos 255) ∷ until_met 3 (pos 0)
    ∷ since_kept 1 (pos 256) ∷ since_kept 2 (pos 255) ∷ since_kept 3 (minus 254) ∷ since_kept 4 (pos 253)
    ∷ since_ahead 1 (minus 255) ∷ since_ahead 2 (pos 254) ∷ since_ahead 3 (pos 254)
    ∷ since_never 1 (minus 256) ∷ since_never 2 (minus 255)
    ∷ not_ahead 1 (minus 255) ∷ not_ahead 2 (pos 0)
    ∷ carrying 1 (minus 256) ∷ carrying 2 (pos 255) ∷ carrying 3 (minus 254)
    ∷ named_state 1 1 (pos 256) ∷ named_state 1 2 (pos 255) ∷ named_state 2 1 (pos 0)
    ∷ referred_to (referring 1 1) 1 (pos 254) ∷ referred_to (referring 1 1) 2 (pos 0) ∷ referred_to (referring 1 1) 3 (pos 0)
    ∷ referred_to (referring_second 1 1) 1 (pos 254)
    ∷ refers_to_signal 3 (pos 254) ∷ refers_to_signal 4 (minus 253) ∷ refers_with_signal
    ∷ some_reference (referring 1 1) (minus 254) ∷ some_reference (referring_second 2 1) (pos 254)
    ∷ previous_signal 1 (minus 256) ∷ previous_signal 2 (pos 255) ∷ previous_signal 3 (minus 254) ∷ bound_next
    ∷ referred_to (referring 1 2) 1 (pos 0) ∷ referred_to (referring 2 1) 1 (pos 0) ∷ refers_to_either
    ∷ highest_signal 31 (pos 256) ∷ highest_signal 30 (minus 256)
    ∷ []

-- ── Raisings: at which states a condition raises an expectation ──
pub record Raising : Type 0 where
  pub table : List Formula
  pub states : List State
  pub condition : ℕ
  pub raised : List Bool

-- A condition that looks ahead, `next signal 0`, is never true by its own state: it never raises, not even with signal 0 on
-- in every state.
abbrev pub looking_ahead : Raising
looking_ahead = record {
  table = Signal 0 ∷ Next 0 ∷ [];
  states = plain 1 ∷ plain 1 ∷ [];
  condition = 1;
  raised = false ∷ false ∷ [];
}

-- The rule's own condition, signal 0, raises at the states that have it on.
abbrev pub rule_condition : Raising
rule_condition = record { table = rule_table; states = rule_log; condition = 0; raised = true ∷ true ∷ false ∷ [] }

abbrev pub raisings : List Raising
raisings = looking_ahead ∷ rule_condition ∷ []

-- ── Refusals: whether a state may follow those before it ──
pub record Offered : Type 0 where
  pub states : List State
  pub state : ℕ
  pub nominal_taken : Bool
  pub reference_unfit : Bool

-- A reference of state 2 to itself or to a later state is unfit, one to state 1 is not.
abbrev pub second_refers : (target : ℕ) → (unfit : Bool) → Offered
second_refers t unfit = record {
  states = plain 0 ∷ referring 1 t ∷ [];
  state = 2;
  nominal_taken = false;
  reference_unfit = unfit;
}

-- A reference of state 2 of another kind: kinds 1 to 15 have a target, kind 0 has none, and no kind is above 15. The second
-- reference counts as the first does.
abbrev pub second_of_kind : (kind target : ℕ) → (unfit : Bool) → Offered
second_of_kind a t unfit = record {
  states = plain 0 ∷ referring_second a t ∷ [];
  state = 2;
  nominal_taken = false;
  reference_unfit = unfit;
}

-- Nominal 7 of state 1 may not stand on state 3 again; another one may, and 0 is none.
abbrev pub third_called : (nominal : ℕ) → (taken : Bool) → Offered
third_called a taken = record {
  states = called 0 7 ∷ plain 0 ∷ called 0 a ∷ [];
  state = 3;
  nominal_taken = taken;
  reference_unfit = false;
}

abbrev pub offers : List Offered
offers = second_refers 2 true ∷ second_refers 1 false ∷ []

-- references of every kind, and nominals
abbrev pub further_offers : List Offered
further_offers =
    second_of_kind 15 1 false ∷ second_of_kind 16 1 true ∷ second_of_kind 0 1 true ∷ second_of_kind 1 0 true ∷ second_of_kind 1 2 true
    ∷ second_refers 3 true
    ∷ third_called 7 true ∷ third_called 8 false ∷ third_called 0 false
    ∷ []
