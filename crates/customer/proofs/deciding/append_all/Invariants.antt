use Rattle.std.proofs.Common.{◌≡◌, take}
use Rattle.monitor.specs.Live.{table_of, states_of, room_of, ground_of, Own}
use Rattle.customer.specs.Following.{taken_in}
use Rattle.customer.proofs.deciding.append_all.Given as goal

abbrev pub invariant-loop-x : goal.invariant-loop-x
invariant-loop-x g l =
    let start = l.initial.monitor in
    record {
      table : table_of l.monitor ≡ table_of start;
      room : room_of l.monitor ≡ room_of start;
      own : Own start → Own l.monitor;
      states : Own start → states_of l.monitor ≡ taken_in (ground_of start) (states_of start) (take l.x-index l.xs);
    }
