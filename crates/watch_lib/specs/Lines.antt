-- Lines of output, as they are written.
use Rattle.std.specs.Prelude.{ℕ, List, [], ◌∷◌, ◌++◌, codes}
use Rattle.fields.specs.Lines.{field}
use Rattle.expectations.specs.Words.{of_event}
use Rattle.watch_lib.specs.declared.lines.Line.{Line}
use Rattle.watch_lib.specs.declared.lines.Line.TheVariants.{Told, Refused, End}

-- the bytes of a line, without a line end
abbrev pub line_text : Line → List ℕ
line_text (Told c x) =
    field (codes "s=") c
    (field (codes " r=") x.rule
    (field (codes " from=") x.from
    (codes " is=" ++ (of_event x.event).word)))
line_text (Refused n l) = field (codes "refused=") n (field (codes " line=") l [])
line_text (End n t) =
    field (codes "end states=") n
    (field (codes " raised=") t.raised
    (field (codes " fulfilled=") t.fulfilled
    (field (codes " violated=") t.violated
    (field (codes " open=") t.pending []))))

-- lines, each with its line end
abbrev pub lines_text : List Line → List ℕ
lines_text [] = []
lines_text (l ∷ ls) = line_text l ++ 10 ∷ lines_text ls
