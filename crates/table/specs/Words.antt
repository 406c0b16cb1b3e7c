-- A defect as it is written.
use Rattle.std.specs.Prelude.{ℕ, List, ◌++◌, codes, decimal}
use Rattle.table.specs.Tables.{number}
use Rattle.table.specs.declared.defects.Defect.{Defect}

abbrev pub defect_text : Defect → List ℕ
defect_text x = codes "refused=" ++ decimal (number x)
