-- Where two texts differ.
use Rattle.std.specs.Prelude.{◌≡◌, ℕ, ◌+◌, cond, List, [], ◌∷◌, ◌++◌, Some, None, Option, ◌==◌}

-- how many line ends stand in a text
abbrev pub line_ends : List ℕ → ℕ
line_ends [] = 0
line_ends (x ∷ xs) = cond (x == 10) 1 0 + line_ends xs

-- two texts differ at their first byte, or just one of them has ended
abbrev pub Apart : List ℕ → List ℕ → Type 0
Apart [] [] = ⊥
Apart [] (y ∷ ys) = Unit {0}
Apart (x ∷ xs) [] = Unit {0}
Apart (x ∷ xs) (y ∷ ys) = x ≡ y → ⊥

-- two texts are the same, or they begin alike up to a byte of this line and there part
abbrev pub Compared : (a b : List ℕ) → Option ℕ → Type 0
Compared a b None = a ≡ b
Compared a b (Some line) =
    (begin : List ℕ) × (p : List ℕ) × (q : List ℕ) × (a ≡ begin ++ p) × (b ≡ begin ++ q) × Apart p q × (line ≡ 1 + line_ends begin)
