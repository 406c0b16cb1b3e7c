-- What a monitor's memory says.
use Rattle.std.specs.Prelude.{◌≡◌, ℕ, ◌+◌, ◌-◌, ◌*◌, ◌^◌, ◌<◌, ◌≤◌, true, false, ◌⊎◌, List, length, Some, None, Option, ◌≢◌, slice_index_or}
use Rattle.std.specs.List.{slice_get}
use Rattle.logic.specs.declared.types.Formula.{Formula}
use Rattle.logic.specs.declared.types.Rule.{Rule}
use Rattle.logic.specs.declared.types.State.{State}
use Rattle.logic.specs.Lawful.{LawfulRecord}
use Rattle.logic.specs.Tables.{no_rule, tree, loose}
use Rattle.labels.specs.declared.dated.Dated.{Dated}
use Rattle.refusals.specs.declared.Refusal.{Refusal}
use Rattle.refusals.specs.declared.Refusal.TheVariants as refusal
use Rattle.table.specs.Tables.{formulas_of, rules_of}
use Rattle.table.specs.declared.finished.Table.{Table}
use Rattle.expectations.specs.declared.types.Label.{Label}
use Rattle.expectations.specs.declared.types.Standing.{Standing}
use Rattle.expectations.specs.declared.types.Tally.{Tally}
use Rattle.expectations.specs.declared.types.Label.TheVariants.{Unknown}
use Rattle.expectations.specs.Expectations.{Labels, no_tally, standing, tallied}
use Rattle.growth.specs.Growth.{label_of_number, labels_of}
use Rattle.answers.specs.Answers.{Ground}
use Rattle.monitor.specs.declared.book.Book.{Book}

abbrev pub formulas_in : Book → List Formula
formulas_in b = formulas_of b.table.draft

abbrev pub rules_in : Book → List Rule
rules_in b = rules_of b.table.draft

-- f is a formula of the table that is not loose
abbrev pub IsClosed : Book → (f : ℕ) → Type 0
IsClosed b f = (f < length (formulas_in b)) × (loose (formulas_in b) f ≡ false)

-- why it is none: the first refusal that fits
abbrev pub NotClosed : Book → (f : ℕ) → Refusal → Type 0
NotClosed b f why =
    ((why ≡ refusal.NoSuchName) × (length (formulas_in b) ≤ f)) ⊎
    ((why ≡ refusal.LooseFormula) × (f < length (formulas_in b)) × (loose (formulas_in b) f ≡ true))

-- the table's rule with number r
abbrev pub IsRule : Book → (r : ℕ) → Rule → Type 0
IsRule b r rule = (r < length (rules_in b)) × (rule ≡ slice_index_or (rules_in b) r no_rule)

-- why there is none
abbrev pub NoRule : Book → (r : ℕ) → Refusal → Type 0
NoRule b r why = (why ≡ refusal.NoSuchName) × (length (rules_in b) ≤ r)

-- the label in a cell
abbrev pub label_in : Option Dated → Label
label_in (Some x) = label_of_number x.value
label_in None = Unknown

abbrev pub cell_at : List Dated → ℕ → Label
cell_at xs k = label_in (slice_get xs k)

-- the labels that the cells hold
abbrev pub held : Book → Labels
held b f i = cell_at b.cells (f * b.count + (i - 1))

-- the standing of rule r's expectation of state s, by the labels that the cells hold, as the last point reads it
abbrev pub standing_in : Book → (r s : ℕ) → Standing
standing_in b r s = standing (held b) (slice_index_or (rules_in b) r no_rule) s b.count

-- rule r's tally, counted by the labels that the cells hold, as the last point reads it
abbrev pub tally_in : Book → (r : ℕ) → Tally
tally_in b r = tallied (held b) (slice_index_or (rules_in b) r no_rule) b.count b.count

-- no count of it is near the last number, so that one more standing is counted
abbrev pub Countable : Tally → Type 0
Countable t = (t.raised < 2 ^ 32) × ((t.pending < 2 ^ 32) × ((t.fulfilled < 2 ^ 32) × (t.violated < 2 ^ 32)))

-- the first m tallies count their rules' expectations as the last point reads them
abbrev pub TalliesRight : Book → (m : ℕ) → Type 0
TalliesRight b m = (k : ℕ) → k < m → slice_index_or b.tallies k no_tally ≡ tally_in b k

-- every tally but that of rule r is the same
abbrev pub OtherTallies : (r : ℕ) → Book → Book → Type 0
OtherTallies r a b = (k : ℕ) → k ≢ r → slice_index_or b.tallies k no_tally ≡ slice_index_or a.tallies k no_tally

-- all but the tallies is the same
abbrev pub SameButTallies : Book → Book → Type 0
SameButTallies a b = (b.table ≡ a.table) × (b.count ≡ a.count) × (b.cells ≡ a.cells) × (b.work ≡ a.work)

-- the memory is right of the states xs: they are lawful, the cells hold their labels and the tallies count by them
pub record Right (xs : List State) (b : Book) : Type 0 where
  pub lawful : LawfulRecord xs
  pub labels : (f i : ℕ) → f < length (formulas_in b) → loose (formulas_in b) f ≡ false → 1 ≤ i → i ≤ length xs → held b f i ≡ labels_of (formulas_in b) xs f i
  pub tallies : TalliesRight b (length (rules_in b))

-- the memory has followed a record to the states xs: it has labelled each of them, and is right of them
abbrev pub Follows : List State → Book → Type 0
Follows xs b = (b.count ≡ length xs) × Right xs b

-- it does if they are lawful, and at most 256
abbrev pub FollowsLawful : List State → Book → Type 0
FollowsLawful xs b = LawfulRecord xs → length xs ≤ 256 → Follows xs b

-- while the record's count is the monitor's, the memory is right of the record's states
abbrev pub Faithful : List State → Book → Type 0
Faithful xs b = b.count ≡ length xs → Right xs b

-- what a monitor over a table with its rules stands on, with a record of the capacity
abbrev pub ground : List Formula → List Rule → (capacity : ℕ) → Ground
ground table rules n = record { trees = tree table; labelled = labels_of table; formulas = length table; loose = loose table; rules = rules; capacity = n }

-- the ground of a monitor over this table
abbrev pub ground_on : Table → (capacity : ℕ) → Ground
ground_on t n = ground (formulas_of t.draft) (rules_of t.draft) n

-- the ground of a monitor with this memory
abbrev pub ground_in : Book → (capacity : ℕ) → Ground
ground_in b n = ground_on b.table n
