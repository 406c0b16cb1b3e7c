-- Dated numbers: 0 is unknown, 257 - d is true from truncation point d on, and d - 257 is false from d on.
use Rattle.std.specs.Prelude.{ℕ, ℤ, pos, ◌-ℤ◌}
use Rattle.std.specs.Int.{int_max, int_min}

unfoldable pub true_from : ℕ → ℤ
true_from d = pos 257 -ℤ pos d

unfoldable pub false_from : ℕ → ℤ
false_from d = pos d -ℤ pos 257

-- the number z as it is seen from state i: no verdict is dated before i
unfoldable pub seen : ℕ → ℤ → ℤ
seen i z = int_max (false_from i) (int_min (true_from i) z)
