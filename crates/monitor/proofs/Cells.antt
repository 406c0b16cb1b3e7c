-- The labels in cells. Assumes nothing.
use Rattle.std.proofs.Common.{◌≡◌, ℕ, zero, suc, ◌<◌, List, [], ◌∷◌, length, get_or, refl, arith}
use Rattle.labels.specs.declared.dated.Dated.{Dated}
use Rattle.growth.specs.Growth.{label_of_number}
use Rattle.monitor.specs.Book.{cell_at}

at_default : (xs : List Dated) (k : ℕ) (d : Dated) → k < length xs → label_of_number (get_or xs k d).value ≡ cell_at xs k
at_default [] k d h = absurd (omega arith)
at_default (y ∷ xs) zero d h = refl
at_default (y ∷ xs) (suc k) d h = at_default xs k d (omega arith)

-- what holds of a cell at every default holds of the label in it
pub cell_of : (xs : List Dated) (k : ℕ) (P : Dated → Type 0) → k < length xs → ((d : Dated) → P (get_or xs k d)) → (x : Dated) × P x × (label_of_number x.value ≡ cell_at xs k)
cell_of [] k P h all = absurd (omega arith)
cell_of (y ∷ xs) k P h all = (get_or (y ∷ xs) k y, all y, at_default (y ∷ xs) k y h)
