-- What two masks mean: bit c - 1 of the one is the weak reading at truncation point c, and of the other the strong reading.
use Rattle.std.specs.Prelude.{◌≡◌, ℕ, ◌-◌, ◌/◌, ◌%◌, ◌^◌, ◌<◌, ◌≤◌, Bool, true, false, cond, ◌==◌}
use Rattle.labels.specs.Readings.{Reading}

-- bit k of the number n, the lowest being bit 0
unfoldable pub bit : ℕ → ℕ → Bool
bit n k = n / 2 ^ k % 2 == 1

abbrev pub strip : ℕ → ℕ → Reading
strip weak strong e c = bit (cond e weak strong) (c - 1)

-- what is true at a point from 1 to n is true by point m
abbrev pub TrueBy : ℕ → ℕ → Reading → Type 0
TrueBy m n f = (c : ℕ) → 0 < c → c ≤ n → f false c ≡ true → f false m ≡ true
