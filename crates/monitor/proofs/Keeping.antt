-- A monitor whose record is its own keeps its promises. Assumes nothing.
use Rattle.std.proofs.Common.{◌≤◌, length, arith}
use Rattle.records.specs.declared.growing.Growing as growing
use Rattle.records.specs.declared.readable.Readable as readable
use Rattle.answers.proofs.Stepping.{own_told, own_grown}
use Rattle.monitor.specs.Book.{formulas_in, rules_in}
use Rattle.monitor.specs.Live.{states_of, room_of, count_of, ground_of, Own}
use Rattle.monitor.specs.Promises.{Promises}
use Rattle.monitor.specs.declared.live.Monitor.{Monitor}
use Rattle.monitor.proofs.Founding.{promised, promised_later}

pub keeps_promises : {R : Type 0} {G : growing.Ghosts R} {D : readable.Ghosts R} → (m : Monitor R G D) → Own m → Promises m
keeps_promises m own =
    let law = (m.faithful own).lawful in
    let small : length (states_of m) ≤ 256 = omega (arith, own, m.book.short) in
    let fits : length (states_of m) ≤ room_of m = omega (arith, own, m.roomy) in
    record {
      replies = λ call. own_told (count_of m) (ground_of m) (states_of m) call own;
      grows = λ call. own_grown (count_of m) (ground_of m) (states_of m) call own;
      now = promised (formulas_in m.book) (rules_in m.book) (room_of m) (states_of m) law small fits;
      later = promised_later (formulas_in m.book) (rules_in m.book) (room_of m) (states_of m) law small fits;
    }
