use Rattle.std.proofs.Common.{◌≡◌, ℕ, ◌+◌, ◌<◌, length, get_or, take, drop}
use Rattle.answers.specs.Law.{foreign}
use Rattle.monitor.specs.Live.{table_of, states_of, room_of, ground_of, Own}
use Rattle.customer.specs.Following.{taken_in, told_of}
use Rattle.customer.proofs.following.follow.Given as goal

abbrev pub invariant-loop-k : goal.invariant-loop-k
invariant-loop-k g l =
    let start = l.initial.monitor in
    let left = λ (n : ℕ). taken_in (ground_of start) (states_of start) (take n l.xs) in
    record {
      table : table_of l.monitor ≡ table_of start;
      room : room_of l.monitor ≡ room_of start;
      later : drop (length l.xs) l.told ≡ drop (length l.xs) l.initial.told;
      own : Own start → Own l.monitor;
      states : Own start → states_of l.monitor ≡ left l.k;
      each : Own start → (i : ℕ) → i < l.k → get_or l.told i foreign ≡ told_of (ground_of start) (left (i + 1)) l.rule l.state;
    }
