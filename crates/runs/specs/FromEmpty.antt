-- What follows of a list of calls on a new monitor if the record was empty at the start.
use Rattle.std.specs.Prelude.{List, []}
use Rattle.records.specs.declared.growing.Growing as growing
use Rattle.records.specs.declared.readable.Readable as readable
use Rattle.answers.specs.declared.types.Call.{Call}
use Rattle.answers.specs.Answers.{accepted}
use Rattle.monitor.specs.Live.{ground_of, Own}
use Rattle.monitor.specs.Promises.{Promised, Promises}
use Rattle.monitor.specs.declared.live.Monitor.{Monitor}

module _ {R : Type 0} {G : growing.Ghosts R} {D : readable.Ghosts R} where
  -- The record is the monitor's own at the end, and the monitor keeps its promises. So much is promised of the answers after every
  -- beginning of the list too, and of those to any other list.
  pub record FromEmpty (m : Monitor R G D) : Type 0 where
    pub own : Own m
    pub promises : Promises m
    pub beginnings : (cs : List Call) → Promised (ground_of m) (accepted (ground_of m) [] cs)
