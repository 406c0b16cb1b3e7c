use Rattle.std.proofs.Common.{◌≡◌, []}
use Rattle.textrecord.specs.Left.{states_left}
use Rattle.textrecord.specs.Listed.{states_of}
use Rattle.monitor.specs.Live.{table_of, states_of as monitor_states, room_of, ground_of, Own}
use Rattle.bench_calls.specs.Outcomes.{appended}
use Rattle.bench_calls.proofs.appending.append_all.Given as goal

abbrev pub invariant-loop-state : goal.invariant-loop-state
invariant-loop-state g l =
    Own l.monitor
    × (table_of l.monitor ≡ table_of l.fn.monitor)
    × (room_of l.monitor ≡ room_of l.fn.monitor)
    × (appended (ground_of l.fn.monitor) (monitor_states l.monitor) (states_left l.state-iterator) ≡ appended (ground_of l.fn.monitor) [] (states_of l.text))
