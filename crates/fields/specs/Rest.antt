-- What of a line is not read yet.
use Rattle.std.specs.Prelude.{ℕ, List, drop}
use Rattle.fields.specs.declared.values.Fields.{Fields}

abbrev pub rest_of : Fields → List ℕ
rest_of f = drop f.at f.line.now
