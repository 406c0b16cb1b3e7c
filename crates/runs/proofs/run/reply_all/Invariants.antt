use Rattle.std.proofs.Common.{◌≡◌, length, drop}
use Rattle.answers.proofs.Stepping.{OwnSoFar, ForeignSoFar}
use Rattle.monitor.specs.Live.{table_of, states_of, room_of, count_of, ground_of, Own}
use Rattle.runs.proofs.run.reply_all.Given as goal

abbrev pub invariant-loop-k : goal.invariant-loop-k
invariant-loop-k g l =
    let start = l.initial.monitor in
    record {
      table : table_of l.monitor ≡ table_of start;
      room : room_of l.monitor ≡ room_of start;
      own : Own start → OwnSoFar (ground_of start) (states_of start) l.calls l.k (count_of l.monitor) (states_of l.monitor) l.answers;
      foreign : (Own start → ⊥) → (l.monitor ≡ start) × ForeignSoFar l.k l.answers;
      later : drop (length l.calls) l.answers ≡ drop (length l.calls) l.initial.answers;
    }
