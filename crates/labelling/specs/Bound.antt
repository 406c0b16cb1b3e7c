-- What the cells of a table's rows tell while formulas are labelled under bindings of the variable.
use Rattle.std.specs.Prelude.{◌≡◌, ℕ, ◌<◌, ◌≤◌, Bool, true, false, ◌⊎◌, List, slice_index_or}
use Rattle.labels.specs.Readings.{Reading, opened}
use Rattle.logic.specs.declared.types.Formula.{Formula}
use Rattle.logic.specs.declared.types.Formula.TheVariants.{True}
use Rattle.logic.specs.declared.types.Reference.{Reference}
use Rattle.logic.specs.States.{Trace}
use Rattle.logic.specs.Logic.{Tree, Reads}
use Rattle.logic.specs.Tables.{tree, loose, EachPart}
use Rattle.labelling.specs.Rows.{cell, row, Filled}
use Rattle.labelling.specs.Tells.{Tells}

-- of the first m formulas, those that are not loose are told, whatever the variable is bound to
abbrev pub ClosedTold : {K : Type 0} → (K → Reading) → (reach n : ℕ) → Trace → List Formula → List K → (m : ℕ) → Type 0
ClosedTold reads reach n s table cells m = (g v : ℕ) → g < m → loose table g ≡ false → Tells reads reach n s v (tree table g) (row n g cells)

-- a formula that a pass over the wanted ones leaves told: if it is loose, it is wanted
abbrev pub Ready : List Formula → List Bool → ℕ → Type 0
Ready table wanted g = loose table g ≡ true → slice_index_or wanted g false ≡ true

-- the wanted formulas are loose, and with each of them its parts are ready
abbrev pub Cone : List Formula → List Bool → (m : ℕ) → Type 0
Cone table wanted m = (g : ℕ) → g < m → slice_index_or wanted g false ≡ true → (loose table g ≡ true) × EachPart (Ready table wanted) (slice_index_or table g True)

-- of the first m formulas, those that are ready are told with the variable bound to v
abbrev pub AllTold : {K : Type 0} → (K → Reading) → (reach n : ℕ) → Trace → List Formula → List Bool → (v : ℕ) → List K → (m : ℕ) → Type 0
AllTold reads reach n s table wanted v cells m = (g : ℕ) → g < m → Ready table wanted g → Tells reads reach n s v (tree table g) (row n g cells)

-- the formula reads so at state i for the target of a reference of the kind
abbrev pub Through : Trace → Tree → (kind : ℕ) → Reference → (i : ℕ) → Bool → (c : ℕ) → Type 0
Through s φ kind ref i e c = (ref.kind ≡ kind) × Reads e s c ref.target i φ

-- formula x is wanted if it is flagged as loose
abbrev pub Wanted : List Bool → List Bool → ℕ → Type 0
Wanted flags wanted x = slice_index_or flags x false ≡ true → slice_index_or wanted x false ≡ true

-- more formulas are wanted, all of them before formula f and flagged
abbrev pub Grown : ℕ → List Bool → List Bool → List Bool → Type 0
Grown f flags old new = (k : ℕ) → (slice_index_or old k false ≡ true → slice_index_or new k false ≡ true)
    × (f ≤ k → slice_index_or new k false ≡ slice_index_or old k false)
    × (slice_index_or new k false ≡ true → (slice_index_or old k false ≡ true) ⊎ (slice_index_or flags k false ≡ true))

-- the first m rows of the label memory: unknown where the formula is flagged as loose, else they read as those of the working
-- memory
abbrev pub Published : {K : Type 0} → (K → Reading) → (reach n : ℕ) → List Bool → List K → List K → (m : ℕ) → Type 0
Published reads reach n flags work cells m = (g : ℕ) → g < m →
    (slice_index_or flags g false ≡ true → Filled reads reach (λ q. opened) (row n g cells) n)
    × (slice_index_or flags g false ≡ false → Filled reads reach (λ q. cell reads (row n g work) q) (row n g cells) n)
