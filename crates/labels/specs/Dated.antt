-- What a dated number z means: 0 is unknown, 257 - d is true from point d on, and d - 257 is false from point d on.
use Rattle.std.specs.Prelude.{true, false, ℤ, pos, ◌+ℤ◌, neg_ℤ, int_le, int_lt}
use Rattle.std.specs.Int.{int_max, int_min}
use Rattle.labels.specs.Readings.{Reading}

-- weakly it holds before point z + 257, and strongly from point 257 - z on
abbrev pub dated : ℤ → Reading
dated z true c = int_lt (pos c) (z +ℤ pos 257)
dated z false c = int_le (pos 257) (z +ℤ pos c)

-- the number z, limited to the range from -most to most
abbrev pub limited_to : (most z : ℤ) → ℤ
limited_to most z = int_max (neg_ℤ most) (int_min z most)
