-- Laws of what watch prints.
use Rattle.std.specs.Prelude.{◌≡◌, ℕ, ◌≤◌, List, [], ◌∷◌, ◌++◌, length}
use Rattle.watch_lib.specs.declared.lines.Line.{Line}
use Rattle.watch_lib.specs.Watched.{Watched}

-- no other lines are printed of the input
abbrev pub Only : (input : List ℕ) → List Line → Type 0
Only input lines = (other : List Line) → Watched input other → other ≡ lines

-- An input gives one output.
abbrev pub OneOutput : Type 0
OneOutput = (input : List ℕ) (lines : List Line) → Watched input lines → Only input lines

-- the lines begin with these
abbrev pub BeginWith : (lines first : List Line) → Type 0
BeginWith lines first = (rest : List Line) × (lines ≡ first ++ rest)

-- Of what is printed nothing but the last line is taken back: the lines up to the last one are the first lines of every input of
-- at most 32768 bytes that goes on from this one.
abbrev pub PrintsFirst : (input : List ℕ) → List Line → Type 0
PrintsFirst input lines =
    (before : List Line) (last : Line) → lines ≡ before ++ last ∷ [] → (more : List ℕ) (other : List Line)
    → length (input ++ more) ≤ 32768 → Watched (input ++ more) other → BeginWith other before
