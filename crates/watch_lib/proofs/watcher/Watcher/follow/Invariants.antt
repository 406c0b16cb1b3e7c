use Rattle.std.proofs.Common.{◌≡◌, ◌+◌, ◌≤◌, length, vec_items}
use Rattle.monitor.specs.Live.{table_of, states_of, room_of, ground_of}
use Rattle.watch_lib.specs.Watched.{Reaches}
use Rattle.watch_lib.proofs.watcher.Watcher.follow.Given as goal

abbrev pub invariant-loop-rest : goal.invariant-loop-rest
invariant-loop-rest g l =
    let xs = states_of l.self.monitor in
    (table_of l.self.monitor ≡ table_of l.initial.self.monitor)
    × (room_of l.self.monitor ≡ room_of l.initial.self.monitor)
    × (length xs + length l.rest ≤ length l.text)
    × Reaches (ground_of l.initial.self.monitor) l.text xs l.rest (vec_items l.lines)

abbrev pub decreases-loop-rest : goal.decreases-loop-rest
decreases-loop-rest g l = length l.rest
