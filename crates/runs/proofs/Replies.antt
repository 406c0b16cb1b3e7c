-- The answers to a list of calls on a new monitor. Assumes nothing.
use Rattle.std.proofs.Common.{ℕ, List, Result}
use Rattle.logic.specs.declared.types.State.{State}
use Rattle.refusals.specs.declared.Refusal.{Refusal}
use Rattle.table.specs.declared.finished.Table.{Table}
use Rattle.table.specs.Tables.{formulas_of, rules_of}
use Rattle.answers.specs.declared.types.Call.{Call}
use Rattle.answers.specs.declared.types.Answer.{Answer}
use Rattle.answers.specs.Law.{Ran}
use Rattle.answers.specs.Lasting.{NeverTakenBack}
use Rattle.answers.proofs.Lasting.{never_back}
use Rattle.monitor.specs.Book.{ground_on}
use Rattle.records.specs.declared.growing.Growing as growing
use Rattle.records.specs.declared.readable.Readable as readable
use Rattle.monitor.specs.declared.live.Monitor.{Monitor}
use Rattle.monitor.specs.Live.{table_of, room_of, Own}
use Rattle.monitor.proofs.Founding.{founded, promised_new}
use Rattle.monitor.proofs.Keeping.{keeps_promises}
use Rattle.runs.specs.FromEmpty.{FromEmpty}

pub never_taken_back : (table : Table) (room : ℕ) (start : List State) (calls : List Call) (answers : List (Result Answer Refusal)) (ends : List State) →
    Ran (ground_on table room) start calls answers ends → NeverTakenBack calls answers
never_taken_back table room = never_back (ground_on table room) (founded (formulas_of table.draft) (rules_of table.draft) room)

pub from_empty : {R : Type 0} {G : growing.Ghosts R} {D : readable.Ghosts R} → (m : Monitor R G D) → Own m → FromEmpty m
from_empty m own = record {
  own = own;
  promises = keeps_promises m own;
  beginnings = promised_new (formulas_of (table_of m).draft) (rules_of (table_of m).draft) (room_of m);
}
