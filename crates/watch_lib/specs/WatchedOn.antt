-- What watch prints of an input of which a beginning was seen before.
use Rattle.std.specs.Prelude.{ℕ, ◌<◌, ◌≤◌, List, [], ◌∷◌, ◌++◌, length, take}
use Rattle.watch_lib.specs.declared.lines.Line.{Line}
use Rattle.watch_lib.specs.Watched.{Watched}

-- The new lines of an input, of which so many first bytes were seen, or all if it has no more: they stand in place of the last
-- line that is printed of these bytes. All lines of an input that is too long are new.
pub data WatchedOn (input : List ℕ) (seen : ℕ) (new : List Line) : Type 0 where
  goes_on : length input ≤ 32768 → (before : List Line) (last : Line) → Watched (take seen input) (before ++ last ∷ [])
      → Watched input (before ++ new) → WatchedOn input seen new
  too_long : 32768 < length input → Watched input new → WatchedOn input seen new
