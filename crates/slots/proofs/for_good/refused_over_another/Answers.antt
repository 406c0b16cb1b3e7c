use Rattle.std.proofs.Common.{◌≡◌, length, Ok, ap, arith}
use Rattle.slots.proofs.Lasting.{one_held, all_foreign}
use Rattle.slots.proofs.for_good.refused_over_another.Goals as goal

pub returns : goal.returns
returns c =
    let calls = c.calls.ensures in
    let new = c.new-held.ensures in
    let held = one_held _ _ _ _ _ new.empty new.room c.append.ensures.appended in
    let long : length c.call_all.new.answers ≡ 17 = omega arith in
    ap Ok (all_foreign _ _ _ _ _ held calls long (c.call_all.ensures.ran (omega (arith, ap length calls))))
