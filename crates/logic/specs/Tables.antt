-- Tables of formulas: a formula's parts are given by their numbers in the table.
use Rattle.std.specs.Prelude.{◌≡◌, ℕ, zero, suc, ◌<◌, ◌≤◌, Bool, true, false, ◌||◌, List, [], ◌∷◌, length, slice_index_or}
use Rattle.logic.specs.Logic.{Tree, true', signal, nominal, not', and', or', next, previous, until, since, at', variable, reference, bind, some', is_loose}
use Rattle.logic.specs.declared.types.Formula.{Formula}
use Rattle.logic.specs.declared.types.Formula.TheVariants.{True, Signal, Nominal, Not, And, Or, Next, Previous, Until, Since, At, Variable, Reference, Bind, Some}
use Rattle.logic.specs.declared.types.Rule.{Rule}

-- what a list of rules reads as past its end
abbrev pub no_rule : Rule
no_rule = record { condition = 0; content = 0 }

-- a formula's tree, where `part` gives those of its parts
abbrev pub node : Formula → (part : ℕ → Tree) → Tree
node True part = true'
node (Signal b) part = signal b
node (Nominal a) part = nominal a
node (Not f) part = not' (part f)
node (And f g) part = and' (part f) (part g)
node (Or f g) part = or' (part f) (part g)
node (Next f) part = next (part f)
node (Previous f) part = previous (part f)
node (Until f g) part = until (part f) (part g)
node (Since f g) part = since (part f) (part g)
node (At a f) part = at' a (part f)
node Variable part = variable
node (Reference a) part = reference a
node (Bind f) part = bind (part f)
node (Some a f) part = some' a (part f)

-- the numbers of a formula's parts
abbrev pub parts_of : Formula → List ℕ
parts_of True = []
parts_of (Signal b) = []
parts_of (Nominal a) = []
parts_of (Not f) = f ∷ []
parts_of (And f g) = f ∷ g ∷ []
parts_of (Or f g) = f ∷ g ∷ []
parts_of (Next f) = f ∷ []
parts_of (Previous f) = f ∷ []
parts_of (Until f g) = f ∷ g ∷ []
parts_of (Since f g) = f ∷ g ∷ []
parts_of (At a f) = f ∷ []
parts_of Variable = []
parts_of (Reference a) = []
parts_of (Bind f) = f ∷ []
parts_of (Some a f) = f ∷ []

-- P of each part of a formula
abbrev pub EachPart : (ℕ → Type 0) → Formula → Type 0
EachPart P True = Unit {0}
EachPart P (Signal b) = Unit {0}
EachPart P (Nominal a) = Unit {0}
EachPart P (Not f) = P f
EachPart P (And f g) = P f × P g
EachPart P (Or f g) = P f × P g
EachPart P (Next f) = P f
EachPart P (Previous f) = P f
EachPart P (Until f g) = P f × P g
EachPart P (Since f g) = P f × P g
EachPart P (At a f) = P f
EachPart P Variable = Unit {0}
EachPart P (Reference a) = Unit {0}
EachPart P (Bind f) = P f
EachPart P (Some a f) = P f

-- the numbers in a formula that are not parts are in their ranges: signals 0 to 31, nominals 1 to 255, kinds 1 to 15
abbrev pub InRange : Formula → Type 0
InRange True = Unit {0}
InRange (Signal b) = b < 32
InRange (Nominal a) = (0 < a) × (a ≤ 255)
InRange (Not f) = Unit {0}
InRange (And f g) = Unit {0}
InRange (Or f g) = Unit {0}
InRange (Next f) = Unit {0}
InRange (Previous f) = Unit {0}
InRange (Until f g) = Unit {0}
InRange (Since f g) = Unit {0}
InRange (At a f) = (0 < a) × (a ≤ 255)
InRange Variable = Unit {0}
InRange (Reference a) = (0 < a) × (a ≤ 15)
InRange (Bind f) = Unit {0}
InRange (Some a f) = (0 < a) × (a ≤ 15)

-- formula number f has its numbers in range, and parts with lower numbers
abbrev pub Orderly : (f : ℕ) → Formula → Type 0
Orderly f φ = InRange φ × EachPart (λ g. g < f) φ

abbrev pub OrderlyTable : List Formula → Type 0
OrderlyTable table = (f : ℕ) → f < length table → Orderly f (slice_index_or table f True)

-- the tree of formula f, cut off after `depth` levels
unfoldable pub tree_to : (depth : ℕ) → List Formula → ℕ → Tree
tree_to zero table f = true'
tree_to (suc m) table f = node (slice_index_or table f True) (tree_to m table)

-- the tree of formula f: in an orderly table its parts have lower numbers, so f + 1 levels are all
unfoldable pub tree : List Formula → ℕ → Tree
tree table f = tree_to (suc f) table f

-- whether formula f is loose
unfoldable pub loose : List Formula → ℕ → Bool
loose table f = is_loose (tree table f)

-- whether a formula is loose, where `part` says which of its parts are
abbrev pub loose_by : Formula → (part : ℕ → Bool) → Bool
loose_by True part = false
loose_by (Signal b) part = false
loose_by (Nominal a) part = false
loose_by (Not f) part = part f
loose_by (And f g) part = part f || part g
loose_by (Or f g) part = part f || part g
loose_by (Next f) part = part f
loose_by (Previous f) part = part f
loose_by (Until f g) part = part f || part g
loose_by (Since f g) part = part f || part g
loose_by (At a f) part = part f
loose_by Variable part = true
loose_by (Reference a) part = true
loose_by (Bind f) part = false
loose_by (Some a f) part = false

-- whether a formula binds the variable
abbrev pub binds : Formula → Bool
binds True = false
binds (Signal b) = false
binds (Nominal a) = false
binds (Not f) = false
binds (And f g) = false
binds (Or f g) = false
binds (Next f) = false
binds (Previous f) = false
binds (Until f g) = false
binds (Since f g) = false
binds (At a f) = false
binds Variable = false
binds (Reference a) = false
binds (Bind f) = true
binds (Some a f) = true

-- the flags of the first m formulas say which of them are loose
abbrev pub Flagged : List Formula → List Bool → (m : ℕ) → Type 0
Flagged table flags m = (f : ℕ) → f < m → slice_index_or flags f false ≡ loose table f

-- Every formula of an orderly table is its operator over its parts.
abbrev pub TreesUnfold : Type 0
TreesUnfold = (table : List Formula) → OrderlyTable table → (f : ℕ) → f < length table →
    tree table f ≡ node (slice_index_or table f True) (tree table)
