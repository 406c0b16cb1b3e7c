-- The words of the operators as they are written.
use Rattle.std.specs.Prelude.{ℕ, List, codes}
use Rattle.words.specs.declared.Operator.{Operator}
use Rattle.words.specs.declared.Operator.TheVariants as op

abbrev pub word : Operator → List ℕ
word op.True = codes "true"
word op.Signal = codes "signal"
word op.Nominal = codes "mark"
word op.Not = codes "not"
word op.And = codes "and"
word op.Or = codes "or"
word op.Next = codes "next"
word op.Previous = codes "prev"
word op.Until = codes "until"
word op.Since = codes "since"
word op.At = codes "at"
word op.Variable = codes "var"
word op.Reference = codes "link"
word op.Bind = codes "bind"
word op.Some = codes "some"
