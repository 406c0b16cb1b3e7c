-- The lines that count formulas and rules.
use Rattle.std.specs.Prelude.{ℕ, ◌≤◌, List, []}
use Rattle.fields.specs.Lines.{Small, field}
use Rattle.fields.specs.Kinds.{Kind}

-- a key and a count from 1 to `most`
abbrev pub count_kind : (key : List ℕ) → (most : ℕ) → Kind
count_kind key most = record {
  Value = ℕ;
  written = λ n. field key n [];
  Formed = Small;
  Ranged = λ n. (1 ≤ n) × (n ≤ most);
}
