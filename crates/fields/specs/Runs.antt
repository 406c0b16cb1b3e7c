-- Runs of numbered lines: formulas, rules and states are written one to a line, each under its number.
use Rattle.std.specs.Prelude.{◌≡◌, ℕ, ◌+◌, List, [], ◌∷◌}

-- The text begins with a line for each element, numbered from k, and `rest` follows them. `Line k x text rest` says that the
-- first line is that of x as number k.
abbrev pub Run : {A : Type 0} → (Line : ℕ → A → List ℕ → List ℕ → Type 0) → (k : ℕ) → List A → (text rest : List ℕ) → Type 0
Run Line k [] text rest = text ≡ rest
Run Line k (x ∷ xs) text rest = (middle : List ℕ) × Line k x text middle × Run Line (k + 1) xs middle rest
