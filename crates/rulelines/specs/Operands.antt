-- The operators' two numbers, a and b, and the formulas that they make.
use Rattle.std.specs.Prelude.{◌≡◌, ℕ, ◌≤◌}
use Rattle.logic.specs.declared.types.Formula.{Formula}
use Rattle.logic.specs.declared.types.Formula.TheVariants as formula
use Rattle.fields.specs.Lines.{number_limit}
use Rattle.words.specs.declared.Operator.{Operator}
use Rattle.words.specs.declared.Operator.TheVariants as op
use Rattle.rulelines.specs.declared.operands.Operand.{Operand}
use Rattle.rulelines.specs.declared.operands.Operand.TheVariants.{Unused, Signal, Nominal, Kind, Part}

-- what the number a of each operator is
abbrev pub column_a : Operator → Operand
column_a op.True = Unused
column_a op.Signal = Signal
column_a op.Nominal = Nominal
column_a op.Not = Part
column_a op.And = Part
column_a op.Or = Part
column_a op.Next = Part
column_a op.Previous = Part
column_a op.Until = Part
column_a op.Since = Part
column_a op.At = Nominal
column_a op.Variable = Unused
column_a op.Reference = Kind
column_a op.Bind = Part
column_a op.Some = Kind

-- what the number b of each operator is
abbrev pub column_b : Operator → Operand
column_b op.True = Unused
column_b op.Signal = Unused
column_b op.Nominal = Unused
column_b op.Not = Unused
column_b op.And = Part
column_b op.Or = Part
column_b op.Next = Unused
column_b op.Previous = Unused
column_b op.Until = Part
column_b op.Since = Part
column_b op.At = Part
column_b op.Variable = Unused
column_b op.Reference = Unused
column_b op.Bind = Unused
column_b op.Some = Part

-- the range of each
abbrev pub Within : Operand → ℕ → Type 0
Within Unused n = n ≡ 0
Within Signal n = n ≤ 31
Within Nominal n = (1 ≤ n) × (n ≤ 255)
Within Kind n = (1 ≤ n) × (n ≤ 15)
Within Part n = n ≤ number_limit

-- the formula of an operator and its numbers
abbrev pub meant : Operator → (a b : ℕ) → Formula
meant op.True a b = formula.True
meant op.Signal a b = formula.Signal a
meant op.Nominal a b = formula.Nominal a
meant op.Not a b = formula.Not a
meant op.And a b = formula.And a b
meant op.Or a b = formula.Or a b
meant op.Next a b = formula.Next a
meant op.Previous a b = formula.Previous a
meant op.Until a b = formula.Until a b
meant op.Since a b = formula.Since a b
meant op.At a b = formula.At a b
meant op.Variable a b = formula.Variable
meant op.Reference a b = formula.Reference a
meant op.Bind a b = formula.Bind a
meant op.Some a b = formula.Some a b
