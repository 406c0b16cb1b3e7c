-- What a verdict says of a rules text and the states of a log.
use Rattle.std.specs.Prelude.{◌≡◌, ℕ, ◌<◌, List, [], length, Ok, Err, Result}
use Rattle.logic.specs.declared.types.State.{State}
use Rattle.refusals.specs.declared.Refusal.{Refusal}
use Rattle.refusals.specs.declared.Refusal.TheVariants as refusal
use Rattle.table.specs.Tables.{formulas_of, rules_of}
use Rattle.table.specs.declared.finished.Table.{Table}
use Rattle.rulestexts.specs.Texts.{Whole, Refused}
use Rattle.expectations.specs.declared.types.Verdict.{Verdict}
use Rattle.expectations.specs.declared.types.Verdict.TheVariants as is
use Rattle.answers.specs.Answers.{Ground}
use Rattle.answers.specs.Law.{LabelIs, AlwaysHolds, NeverHolds}
use Rattle.answers.specs.Refused.{LabelRefused}
use Rattle.monitor.specs.Book.{ground_on}
use Rattle.monitor.specs.Meant.{GoesOn}
use Rattle.customer.specs.Following.{taken_in}
use Rattle.customer.specs.declared.deciding.Undecided.{Undecided}
use Rattle.customer.specs.declared.deciding.Undecided.TheVariants as undecided

-- the text begins with this table
abbrev pub Tabled : (text : List ℕ) → Table → Type 0
Tabled text t = (used : ℕ) × Whole text (formulas_of t.draft) (rules_of t.draft) used

-- what a verdict says of formula f at state i of every lawful endless trace that begins with the states xs
abbrev pub Says : Ground → List State → (f i : ℕ) → Verdict → Type 0
Says G xs f i is.True = AlwaysHolds G xs f i
Says G xs f i is.False = NeverHolds G xs f i
Says G xs f i is.Unknown = Unit {0}

-- The last of the states xs reads the formula so, which says what it says, and some lawful endless trace begins with them.
pub record Told (G : Ground) (xs : List State) (f i : ℕ) (v : Verdict) : Type 0 where
  pub reads : LabelIs G xs f i (length xs) v
  pub says : Says G xs f i v
  pub goes_on : GoesOn xs

-- so it is told, or refused for what the refusal says
abbrev pub LastReads : Ground → List State → (f i : ℕ) → Result Verdict Undecided → Type 0
LastReads G xs f i (Ok v) = Told G xs f i v
LastReads G xs f i (Err (undecided.Text e)) = ⊥
LastReads G xs f i (Err (undecided.Refused why)) = LabelRefused G (length xs) f i (length xs) why

-- the ground of this table over a record with the room, and the states that are accepted of the list
abbrev pub Over : Table → (room : ℕ) → List State → (Ground → List State → Type 0) → Type 0
Over t room xs P = P (ground_on t room) (taken_in (ground_on t room) [] xs)

-- The text begins with a table, over which the last accepted state of the list reads the formula so.
pub record Decided (text : List ℕ) (room : ℕ) (xs : List State) (f i : ℕ) (v : Verdict) : Type 0 where
  pub table : Table
  pub reads : Tabled text table
  pub told : Over table room xs (λ G ys. Told G ys f i v)

-- the record had states; or the label of formula f at state i is refused after the states that are accepted of the list
abbrev pub Declined : Table → (room before : ℕ) → List State → (f i : ℕ) → Refusal → Type 0
Declined t room before xs f i refusal.ForeignRecord = 0 < before
Declined t room before xs f i why = (before ≡ 0) × Over t room xs (λ G ys. LabelRefused G (length ys) f i (length ys) why)

-- The text is refused; or it begins with a table, over which the monitor declines.
abbrev pub Undecidable : (text : List ℕ) → (room before : ℕ) → List State → (f i : ℕ) → Undecided → Type 0
Undecidable text room before xs f i (undecided.Text e) = Refused text e
Undecidable text room before xs f i (undecided.Refused why) = (t : Table) × Tabled text t × Declined t room before xs f i why

-- It is decided, or it is said why not.
abbrev pub Whether : (text : List ℕ) → (room before : ℕ) → List State → (f i : ℕ) → Result Verdict Undecided → Type 0
Whether text room before xs f i (Ok v) = Decided text room xs f i v
Whether text room before xs f i (Err why) = Undecidable text room before xs f i why
