-- The law of a live monitor.
use Rattle.std.specs.Prelude.{◌≡◌, ◌≤◌, List, length}
use Rattle.logic.specs.declared.types.State.{State}
use Rattle.records.specs.declared.growing.Growing as growing
use Rattle.records.specs.declared.readable.Readable as readable
use Rattle.answers.specs.declared.types.Call.{Call}
use Rattle.answers.specs.Answers.{Ground, told, after, accepted}
use Rattle.answers.specs.Law.{Judged}
use Rattle.answers.specs.Lasting.{Lasts}
use Rattle.answers.specs.Refused.{QueriesRefused}
use Rattle.monitor.specs.Live.{states_of, ground_of, reply_of, states_after}
use Rattle.monitor.specs.Meant.{Meant, GoesOn}
use Rattle.monitor.specs.declared.live.Monitor.{Monitor}

-- What is promised of the answers after the accepted states xs: they obey the law of a monitor; they mean the readings of the
-- formulas; they last; a query is refused for what its refusal says; some lawful endless trace begins with the states; and there
-- are at most 256 states, and at most as many as the record has room for.
pub record Promised (G : Ground) (xs : List State) : Type 0 where
  pub judged : Judged G xs
  pub meant : Meant G xs
  pub lasts : Lasts G xs
  pub queries : QueriesRefused G xs
  pub goes_on : GoesOn xs
  pub few : length xs ≤ 256
  pub roomy : length xs ≤ G.capacity

module _ {R : Type 0} {G : growing.Ghosts R} {D : readable.Ghosts R} where
  -- What a monitor promises whose record is its own: it answers each call as is told after the states of its record, and a call leaves
  -- the states that are then accepted; and so much is promised of the answers now, and of those after whatever calls follow.
  pub record Promises (m : Monitor R G D) : Type 0 where
    pub replies : (call : Call) → reply_of m call ≡ told (ground_of m) (states_of m) call
    pub grows : (call : Call) → states_after m call ≡ after (ground_of m) (states_of m) call
    pub now : Promised (ground_of m) (states_of m)
    pub later : (cs : List Call) → Promised (ground_of m) (accepted (ground_of m) (states_of m) cs)
