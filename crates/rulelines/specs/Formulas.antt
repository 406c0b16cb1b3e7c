-- Formula lines, as they are written.
use Rattle.std.specs.Prelude.{◌≡◌, ℕ, List, [], ◌++◌, codes}
use Rattle.words.specs.Words.{word}
use Rattle.fields.specs.Lines.{Small, field}
use Rattle.fields.specs.Kinds.{Kind}
use Rattle.rulelines.specs.declared.entries.Entry.{Entry}
use Rattle.rulelines.specs.Operands.{column_a, column_b, Within}

-- the line that shows an entry: a formula's number, its operator and the operator's two numbers
abbrev pub entry_line : Entry → List ℕ
entry_line v =
    field (codes "f=") v.number
    (codes " op=" ++ (word v.operator ++
    field (codes " a=") v.a
    (field (codes " b=") v.b [])))

-- each number has at most ten digits
pub record Formed (v : Entry) : Type 0 where
  pub number : Small v.number
  pub a : Small v.a
  pub b : Small v.b

-- the number is the next one, and both numbers of the operator are in their ranges
pub record Ranged (k : ℕ) (v : Entry) : Type 0 where
  pub number : v.number ≡ k
  pub a : Within (column_a v.operator) v.a
  pub b : Within (column_b v.operator) v.b

-- the line of formula k
abbrev pub formula_kind : (k : ℕ) → Kind
formula_kind k = record { Value = Entry; written = entry_line; Formed = Formed; Ranged = Ranged k }
