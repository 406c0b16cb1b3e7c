-- Why there is no alarm for a rule.
use Rattle.std.specs.Prelude.{◌≡◌, ℕ, ◌<◌, ◌≤◌, length}
use Rattle.refusals.specs.declared.Refusal.{Refusal}
use Rattle.refusals.specs.declared.Refusal.TheVariants as refusal
use Rattle.table.specs.Tables.{rules_of}
use Rattle.table.specs.declared.finished.Table.{Table}

-- the record has states already, or the table has no such rule
abbrev pub Unwatched : Table → (states rule : ℕ) → Refusal → Type 0
Unwatched table states rule refusal.ForeignRecord = 0 < states
Unwatched table states rule refusal.NoSuchName = (states ≡ 0) × (length (rules_of table.draft) ≤ rule)
Unwatched table states rule why = ⊥
