use Rattle.std.proofs.Common.{ℕ, arith}
use Rattle.logic.specs.Tables.{InRange}
use Rattle.words.specs.declared.Operator.{Operator}
use Rattle.words.specs.declared.Operator.TheVariants as op
use Rattle.rulelines.specs.Operands.{column_a, column_b, Within, meant}

-- an operator with its numbers in their ranges makes a formula in range
pub within_range : (o : Operator) (a b : ℕ) → Within (column_a o) a → Within (column_b o) b → InRange (meant o a b)
within_range op.True a b p q = tt
within_range op.Signal a b p q = omega arith
within_range op.Nominal a b p q = (omega (arith, p.0), p.1)
within_range op.Not a b p q = tt
within_range op.And a b p q = tt
within_range op.Or a b p q = tt
within_range op.Next a b p q = tt
within_range op.Previous a b p q = tt
within_range op.Until a b p q = tt
within_range op.Since a b p q = tt
within_range op.At a b p q = (omega (arith, p.0), p.1)
within_range op.Variable a b p q = tt
within_range op.Reference a b p q = (omega (arith, p.0), p.1)
within_range op.Bind a b p q = tt
within_range op.Some a b p q = (omega (arith, p.0), p.1)
