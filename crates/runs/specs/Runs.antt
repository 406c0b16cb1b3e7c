-- What a list of calls on a new monitor leaves.
use Rattle.std.specs.Prelude.{◌≡◌, ◌<◌, ◌≤◌, List, length, Result}
use Rattle.refusals.specs.declared.Refusal.{Refusal}
use Rattle.records.specs.declared.growing.Growing as growing
use Rattle.records.specs.declared.readable.Readable as readable
use Rattle.table.specs.declared.finished.Table.{Table}
use Rattle.answers.specs.declared.types.Call.{Call}
use Rattle.answers.specs.declared.types.Answer.{Answer}
use Rattle.answers.specs.Law.{Ran}
use Rattle.monitor.specs.Book.{ground_on}
use Rattle.monitor.specs.Live.{table_of, states_of, room_of, ground_of}
use Rattle.monitor.specs.declared.live.Monitor.{Monitor}

-- memory that is lent for the answers has a place for each call, or has not
abbrev pub Enough : List Call → List (Result Answer Refusal) → Type 0
Enough calls answers = length calls ≤ length answers

abbrev pub TooLittle : List Call → List (Result Answer Refusal) → Type 0
TooLittle calls answers = length answers < length calls

module _ {R : Type 0} {G : growing.Ghosts R} {D : readable.Ghosts R} where
  -- the answers to the calls on a monitor, and the states that it then has as m
  abbrev pub RanFrom : Monitor R G D → List Call → List (Result Answer Refusal) → Monitor R G D → Type 0
  RanFrom old calls answers m = Ran (ground_of old) (states_of old) calls answers (states_of m)

  -- the answers to the calls on a new monitor over the table and the record, and the states that the monitor m then has
  abbrev pub RanOn : Table → R → List Call → List (Result Answer Refusal) → Monitor R G D → Type 0
  RanOn table log calls answers m = Ran (ground_on table (G.room log)) (D.states log) calls answers (states_of m)

  -- the monitor m has the table and the room that it was made over, and so stands on the ground of these
  abbrev pub MadeOver : Table → R → Monitor R G D → Type 0
  MadeOver table log m = (table_of m ≡ table) × (room_of m ≡ G.room log) × (ground_of m ≡ ground_on table (G.room log))
