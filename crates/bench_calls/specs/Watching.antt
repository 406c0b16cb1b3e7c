-- What is left of the output of watch in memory of a fixed length.
use Rattle.std.specs.Prelude.{◌≡◌, ℕ, ◌-◌, ◌^◌, ◌<◌, ◌≤◌, List, length}
use Rattle.watch_lib.specs.Printed.{Printed}
use Rattle.bench_calls.specs.Memory.{over}

-- The bytes stand at the beginning. Or nothing was written, since they are more than all that was lent.
pub data Left (bytes old : List ℕ) (n : ℕ) (new : List ℕ) : Type 0 where
  written : length bytes ≤ length old → n ≡ length bytes → new ≡ over bytes old → Left bytes old n new
  no_room : length old < length bytes → n ≡ 2 ^ 64 - 1 → new ≡ old → Left bytes old n new

-- What is printed of the input is left in the memory. Or nothing was written, since there was no memory to make it in.
pub data Wrote (input old : List ℕ) (n : ℕ) (new : List ℕ) : Type 0 where
  made : (bytes : List ℕ) → Printed input bytes → Left bytes old n new → Wrote input old n new
  no_memory : n ≡ 2 ^ 64 - 2 → new ≡ old → Wrote input old n new
