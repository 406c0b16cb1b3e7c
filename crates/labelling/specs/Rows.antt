-- Rows of labels, one for each state, that stand one after another in a list of cells.
use Rattle.std.specs.Prelude.{◌≡◌, ℕ, zero, suc, ◌-◌, ◌*◌, ◌<◌, ◌≤◌, Bool, false, List, [], ◌∷◌, take, drop, Option, MatchOption, slice_index_or}
use Rattle.labels.specs.Readings.{Reading, Same, opened}

-- the row of formula f, with n states to a row
abbrev pub row : {K : Type 0} → (n f : ℕ) → List K → List K
row n f cells = take n (drop (f * n) cells)

-- the reading of the label at a place, and unknown past the row's end
unfoldable pub cell : {K : Type 0} → (K → Reading) → List K → ℕ → Reading
cell reads [] p e c = e
cell reads (x ∷ xs) zero e c = reads x e c
cell reads (x ∷ xs) (suc p) e c = cell reads xs p e c

-- at a state, which counts from 1
abbrev pub at : {K : Type 0} → (K → Reading) → List K → ℕ → Reading
at reads xs i = cell reads xs (i - 1)

-- a label reads as the one at a state, and is unknown where there is none
abbrev pub ReadAt : {K : Type 0} → (K → Reading) → (reach : ℕ) → List K → Option ℕ → K → Type 0
ReadAt reads reach xs state x = MatchOption state (Same reach (reads x) opened) (λ i. Same reach (reads x) (at reads xs i))

-- at the place before, and false before the first
unfoldable pub prior : {K : Type 0} → (K → Reading) → List K → ℕ → Reading
prior reads xs zero e c = false
prior reads xs (suc p) e c = cell reads xs p e c

-- the labels before place p read as F says, at every point up to the kind's length
abbrev pub Filled : {K : Type 0} → (K → Reading) → (reach : ℕ) → (ℕ → Reading) → List K → (p : ℕ) → Type 0
Filled reads reach F xs p = (q : ℕ) (e : Bool) (c : ℕ) → q < p → 0 < c → c ≤ reach → cell reads xs q e c ≡ F q e c

-- the first m cells are unknown
abbrev pub Cleared : {K : Type 0} → (K → Reading) → (reach : ℕ) → List K → (m : ℕ) → Type 0
Cleared {K} reads reach xs m = (k : ℕ) (d : K) → k < m → Same reach (reads (slice_index_or xs k d)) opened
