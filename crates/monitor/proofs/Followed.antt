-- A memory that has followed its record is right. Assumes nothing.
use Rattle.std.proofs.Common.{◌≡◌, ℕ, ◌+◌, ◌-◌, ◌*◌, ◌<◌, ◌≤◌, Bool, false, List, length, sym, ap, ◌∙◌, mul-le-mul, arith}
use Rattle.logic.specs.declared.types.Formula.{Formula}
use Rattle.logic.specs.declared.types.State.{State}
use Rattle.logic.specs.Lawful.{LawfulRecord}
use Rattle.logic.specs.Tables.{tree, loose}
use Rattle.labels.specs.Dated.{dated}
use Rattle.labels.specs.declared.dated.Dated.{Dated}
use Rattle.refusals.specs.declared.Refusal.{Refusal}
use Rattle.refusals.specs.declared.Refusal.TheVariants as refusal
use Rattle.labelling.specs.Whole.{Means, place, Declined, Labelled}
use Rattle.labelling.proofs.Nodes.{row_below}
use Rattle.growth.specs.Growth.{labels_of}
use Rattle.growth.proofs.Growing.{cells_are_labels_lem}
use Rattle.monitor.specs.declared.book.Book.{Book}
use Rattle.monitor.specs.Book.{formulas_in, rules_in, cell_at, TalliesRight, Right}
use Rattle.monitor.proofs.Cells.{cell_of}

abbrev pub dates : Dated → Bool → ℕ → Bool
dates x = dated x.value

-- a whole labelling with dated labels leaves the labels of the record
module _ (xs : List State) (b : Book) (old oldWork newWork : List Dated) (done : Labelled dates 256 (formulas_in b) xs old oldWork b.cells newWork)
    (counted : b.count ≡ length xs) (small : length xs ≤ 256) (wide : length (formulas_in b) * length xs ≤ length b.cells) where
  in_cell : (f i : ℕ) → f < length (formulas_in b) → loose (formulas_in b) f ≡ false → 1 ≤ i → i ≤ length xs → cell_at b.cells (place (length xs) f i) ≡ labels_of (formulas_in b) xs f i
  in_cell f i less closed one le =
      let fits : place (length xs) f i < length b.cells = omega (arith, row_below f (length (formulas_in b)) (length xs) less) in
      let cell = cell_of b.cells (place (length xs) f i) (Means dates 256 xs 0 i (tree (formulas_in b) f)) fits (λ d. (done.labels f i less one le d).0 closed 0) in
      sym cell.2 ∙ cells_are_labels_lem (formulas_in b) xs f i small done.lawful one le cell.0 cell.1

  pub right_after : TalliesRight b (length (rules_in b)) → Right xs b
  right_after tallies =
      record {
        lawful = done.lawful;
        labels = λ f i less closed one le. ap (λ n. cell_at b.cells (f * n + (i - 1))) counted ∙ in_cell f i less closed one le;
        tallies = tallies;
      }

pub enough : (m n : ℕ) → m ≤ 64 → n ≤ 256 → m * n ≤ 16384
enough m n a b = let p = mul-le-mul a b in omega arith

-- a lawful record of at most 256 states is not declined
pub not_declined : (table : List Formula) (xs : List State) (labels work : ℕ) → length table ≤ 64 → length xs ≤ 256 → LawfulRecord xs → labels ≡ 16384 → work ≡ 16384
    → (why : Refusal) → Declined table xs 256 labels work why → ⊥
not_declined table xs labels work few small law wl ww refusal.TooManyStates d = d (small, small)
not_declined table xs labels work few small law wl ww refusal.MemoryTooShort d = let p = enough (length table) (length xs) few small in d.1 (omega arith, omega arith)
not_declined table xs labels work few small law wl ww (refusal.NominalTaken i) d = let u = d.2 in (law i u.0 u.1).0 u.2
not_declined table xs labels work few small law wl ww (refusal.ReferenceUnfit i) d = let u = d.2 in (law i u.0 u.1).1 u.2.1
not_declined table xs labels work few small law wl ww _ d = d
