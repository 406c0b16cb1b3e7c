-- What a table record means.
use Rattle.std.specs.Prelude.{◌≡◌, ℕ, List, length, take, Ok, Err, Result, slice_set}
use Rattle.logic.specs.declared.types.State.{State}
use Rattle.records.specs.declared.table.TableRecord.{TableRecord}

-- its first rows, as many as it counts
abbrev pub table_states : TableRecord → List State
table_states t = take t.count t.rows.now

-- as many states as there are rows
abbrev pub table_room : TableRecord → ℕ
table_room t = length t.rows.now

-- what an append of x to the record t leaves in the rows, where u is the record afterwards: x in the row after those that t
-- counts, if it is accepted, and every other row as it was
abbrev pub Written : {U E : Type 0} → (t : TableRecord) (x : State) → Result U E → (u : TableRecord) → Type 0
Written t x (Ok _) u = u.rows.now ≡ slice_set t.rows.now t.count x
Written t x (Err _) u = u.rows.now ≡ t.rows.now
