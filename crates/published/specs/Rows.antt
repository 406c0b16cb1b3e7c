-- Labels as they are written.
use Rattle.std.specs.Prelude.{ℕ, cond, List, [], ◌++◌, codes, nat_lt}
use Rattle.fields.specs.Lines.{field}
use Rattle.expectations.specs.declared.types.Label.{Label}
use Rattle.expectations.specs.declared.types.Label.TheVariants.{Unknown, TrueFrom, FalseFrom}
use Rattle.published.specs.declared.rows.Row.{Row}

-- a label of state i that is decided from d on was open before, if d is after i
abbrev pub words_before : (i d : ℕ) → List ℕ
words_before i d = cond (nat_lt i d) (codes "open, ") []

abbrev pub label_text : (i : ℕ) → Label → List ℕ
label_text i Unknown = codes "open"
label_text i (TrueFrom d) = words_before i d ++ field (codes "true from ") d []
label_text i (FalseFrom d) = words_before i d ++ field (codes "false from ") d []

abbrev pub row_text : Row → List ℕ
row_text x =
    field (codes "states=") x.states
    (field (codes " f=") x.formula
    (field (codes " s=") x.state
    (codes " " ++ label_text x.state x.label)))
