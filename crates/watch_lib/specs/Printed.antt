-- What watch prints of an input, as one text.
use Rattle.std.specs.Prelude.{◌≡◌, ℕ, List}
use Rattle.watch_lib.specs.declared.lines.Line.{Line}
use Rattle.watch_lib.specs.Lines.{lines_text}
use Rattle.watch_lib.specs.Watched.{Watched}
use Rattle.watch_lib.specs.WatchedOn.{WatchedOn}

abbrev pub Printed : (input output : List ℕ) → Type 0
Printed input output = (lines : List Line) × Watched input lines × (output ≡ lines_text lines)

-- the bytes of the lines that are new beside those of the input's first bytes
abbrev pub PrintedOn : (input : List ℕ) → (seen : ℕ) → (output : List ℕ) → Type 0
PrintedOn input seen output = (lines : List Line) × WatchedOn input seen lines × (output ≡ lines_text lines)
