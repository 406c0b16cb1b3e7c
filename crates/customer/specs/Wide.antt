-- What two masks mean: bit c - 1 of the one is the weak reading at truncation point c, and of the other the strong reading.
use Rattle.std.specs.Prelude.{◌≡◌, ℕ, ◌-◌, ◌/◌, ◌%◌, ◌^◌, ◌<◌, ◌≤◌, Bool, true, false, cond, ◌==◌}
use Rattle.expectations.specs.declared.types.Verdict.{Verdict}
use Rattle.expectations.specs.declared.types.Verdict.TheVariants as is
use Rattle.labels.specs.Readings.{Reading}

-- bit k of the number n, the lowest being bit 0
unfoldable pub bit : ℕ → ℕ → Bool
bit n k = n / 2 ^ k % 2 == 1

abbrev pub wide : ℕ → ℕ → Reading
wide weak strong e c = bit (cond e weak strong) (c - 1)

-- one reading stays as it is at a point where both agree
abbrev pub Stays : Bool → ℕ → Reading → Type 0
Stays e n f = (c d : ℕ) → (0 < c) × (c ≤ d) × (d ≤ n) × (f true c ≡ f false c) → f e d ≡ f e c

-- what the readings tell at a point: true where both hold, unknown where only the weak one does, and else false
abbrev pub read_as : Reading → (c : ℕ) → Verdict
read_as f c = cond (f false c) is.True (cond (f true c) is.Unknown is.False)
