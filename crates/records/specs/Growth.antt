-- How a record grows.
use Rattle.std.specs.Prelude.{◌≡◌, ℕ, ◌<◌, ◌≤◌, List, [], ◌∷◌, ◌++◌, length, Ok, Err, Result}

-- What an append of x to a record of the list xs, with room for a number of items, answers and leaves as its list ys: it is
-- accepted exactly if there is room, and ys then has x at its end; otherwise it is refused, and the list is the same.
abbrev pub Appended : {X U E : Type 0} → (xs : List X) (room : ℕ) (x : X) → Result U E → (ys : List X) → Type 0
Appended xs room x (Ok _) ys = (length xs < room) × (ys ≡ xs ++ x ∷ [])
Appended xs room x (Err _) ys = (room ≤ length xs) × (ys ≡ xs)

-- An append of x to a record, which leaves it as another, is such an append to what its states are, with the room that it has.
abbrev pub Grows : {R X U E : Type 0} → (states : R → List X) (room : R → ℕ) (old : R) (x : X) → Result U E → (new : R) → Type 0
Grows states room old x r new = Appended (states old) (room old) x r (states new)
