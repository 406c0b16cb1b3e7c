-- What whole labelling leaves in labels of 128 points.
use Rattle.std.specs.Prelude.{◌≡◌, ℕ, ◌<◌, ◌≤◌, false, List, length, Result, slice_index_or}
use Rattle.logic.specs.declared.types.State.{State}
use Rattle.logic.specs.Tables.{tree, loose}
use Rattle.refusals.specs.declared.Refusal.{Refusal}
use Rattle.labels.specs.Readings.{Reading}
use Rattle.labelling.specs.Whole.{place, Means, Answered}
use Rattle.table.specs.Tables.{formulas_of}
use Rattle.table.specs.declared.finished.Table.{Table}
use Rattle.customer.specs.Wide.{wide}
use Rattle.customer.specs.declared.wide.Wide.{Wide}

-- the readings of a label
abbrev pub reads : Wide → Reading
reads x = wide x.weak x.strong

-- it answers the number of states and leaves their labels, or declines and leaves all memory as it was
abbrev pub WideAnswered : Table → List State → (old oldWork : List Wide) → Result ℕ Refusal → (new newWork : List Wide) → Type 0
WideAnswered t xs old oldWork r new newWork = Answered reads 128 (formulas_of t.draft) xs old oldWork r new newWork

-- each label of a formula that is not loose, at a state of the record, means the formula, whatever the variable is bound to
abbrev pub EachMeans : Table → List State → List Wide → Type 0
EachMeans t xs cells = (f i : ℕ) (x : Wide) (v : ℕ) → f < length (formulas_of t.draft) → loose (formulas_of t.draft) f ≡ false →
    1 ≤ i → i ≤ length xs →
    Means reads 128 xs v i (tree (formulas_of t.draft) f) (slice_index_or cells (place (length xs) f i) x)
