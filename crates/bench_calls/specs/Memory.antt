-- Memory that is written over from its beginning.
use Rattle.std.specs.Prelude.{◌≡◌, ℕ, ◌<◌, ◌≤◌, List, [], ◌∷◌, length, Option, MatchOption}

-- ys with the items of xs over its first ones, as far as it reaches
abbrev pub over : {A : Type 0} → (xs ys : List A) → List A
over [] ys = ys
over (x ∷ xs) [] = []
over (x ∷ xs) (y ∷ ys) = x ∷ over xs ys

-- all bytes are put over the memory's beginning, and how many there are is answered; or it is too short, and is as it was
abbrev pub Put : (bytes old : List ℕ) → Option ℕ → (new : List ℕ) → Type 0
Put bytes old o new =
    MatchOption o ((length old < length bytes) × (new ≡ old)) (λ n. (length bytes ≤ length old) × (n ≡ length bytes) × (new ≡ over bytes old))
