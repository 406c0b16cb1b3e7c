-- The labels of a table's formulas, as a function of the states.
use Rattle.std.specs.Prelude.{zero, suc, ◌-◌, List, length, ℤ, pos, negsuc}
use Rattle.logic.specs.declared.types.Formula.{Formula}
use Rattle.logic.specs.declared.types.State.{State}
use Rattle.logic.specs.States.{state_at}
use Rattle.logic.specs.Tables.{tree}
use Rattle.dating.specs.Labels.{label}
use Rattle.expectations.specs.declared.types.Label.{Label}
use Rattle.expectations.specs.declared.types.Label.TheVariants.{Unknown, TrueFrom, FalseFrom}
use Rattle.expectations.specs.Expectations.{Labels}

-- The label that a dated number stands for: 0 is unknown, 257 - d is true from point d on, and d - 257 is false from point d on.
-- (Here 257 - (k + 1) is 256 - k, and `negsuc k` is -(k + 1).)
abbrev pub label_of_number : ℤ → Label
label_of_number (pos zero) = Unknown
label_of_number (pos (suc k)) = TrueFrom (256 - k)
label_of_number (negsuc k) = FalseFrom (256 - k)

-- The labels of a table's formulas at the states of a record. In a loose formula the variable is bound to no state.
unfoldable pub labels_of : List Formula → List State → Labels
labels_of table xs f i = label_of_number (label (state_at xs) (length xs) 0 i (tree table f))
