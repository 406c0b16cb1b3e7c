-- Facts of a table that have one proof at most, so that a struct may hold them.
use Rattle.std.specs.Prelude.{ℕ, Bool, List, slice_index_or}
use Rattle.std.specs.Coded.{×_prop, Π_prop, →_prop}
use mathlib.Core.Bool.{Bool-set}
use Rattle.logic.specs.declared.types.Formula.{Formula}
use Rattle.logic.specs.declared.types.Formula.TheVariants.{True}
use Rattle.table.specs.Order.{EachPart-prop}
use Rattle.labelling.specs.Bound.{Ready, Cone}

pub Ready-prop : (table : List Formula) (wanted : List Bool) (g : ℕ) → IsProp (Ready table wanted g)
Ready-prop table wanted g = →_prop (Bool-set _ _)

pub Cone-prop : (table : List Formula) (wanted : List Bool) (m : ℕ) → IsProp (Cone table wanted m)
Cone-prop table wanted m =
    Π_prop (λ g. →_prop (→_prop (×_prop (Bool-set _ _) (EachPart-prop (Ready table wanted) (Ready-prop table wanted) (slice_index_or table g True)))))
