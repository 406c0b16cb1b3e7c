-- What a refusal of a text tells: its number, its layer and its place.
use Rattle.std.specs.Prelude.{ℕ, List, ◌++◌, codes, decimal}
use Rattle.faults.specs.declared.layer.Layer.{Layer}
use Rattle.faults.specs.declared.layer.Layer.TheVariants as layer
use Rattle.faults.specs.declared.line.LineFault.{LineFault}
use Rattle.faults.specs.declared.line.LineFault.TheVariants.{Torn, Form, Range}
use Rattle.faults.specs.declared.table.TableFault.{TableFault}
use Rattle.faults.specs.declared.table.TableFault.TheVariants.{Dangling, Loose}
use Rattle.faults.specs.declared.read.ReadFault.{ReadFault}
use Rattle.faults.specs.declared.read.ReadFault.TheVariants as read

pub record Refusal : Type 0 where
  pub number : ℕ
  pub layer : Layer
  pub place : ℕ

-- faults of a line: 1 to 3, and the line counted from 1
abbrev pub of_line : LineFault → Refusal
of_line (Torn line) = record { number = 1; layer = layer.Line; place = line }
of_line (Form line) = record { number = 2; layer = layer.Line; place = line }
of_line (Range line) = record { number = 3; layer = layer.Line; place = line }

-- faults of the table: 4 and 5, and the line of the formula or the rule
abbrev pub of_table : TableFault → Refusal
of_table (Dangling line) = record { number = 4; layer = layer.Table; place = line }
of_table (Loose line) = record { number = 5; layer = layer.Table; place = line }

abbrev pub refusal : ReadFault → Refusal
refusal (read.Line fault) = of_line fault
refusal (read.Table fault) = of_table fault

-- the bytes of a reader's fault
abbrev pub fault_text : ReadFault → List ℕ
fault_text x = codes "refused=" ++ (decimal (refusal x).number ++ (codes " line=" ++ decimal (refusal x).place))
