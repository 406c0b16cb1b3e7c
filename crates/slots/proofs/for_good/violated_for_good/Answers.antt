use Rattle.std.proofs.Common.{◌≡◌, length, Ok, ap, ◌∙◌, ap₂, arith}
use Rattle.monitor.specs.Book.{ground_on}
use Rattle.slots.proofs.Lasting.{slots_are, as_expected, lasts_for_good, none_taken_back}
use Rattle.slots.proofs.for_good.violated_for_good.Goals as goal

pub returns : goal.returns
returns c =
    let table = c.in_ok-slot_table.ensures in
    let new = c.new.ensures in
    let calls = c.calls.ensures in
    let calling = c.call_all.ensures in
    let long : length c.call_all.new.answers ≡ 17 = omega arith in
    let slots = slots_are _ _ _ table.0 table.1 new.room in
    let said = as_expected _ _ _ _ _ slots new.empty calls long (calling.ran (omega (arith, ap length calls))) in
    let empty = calling.empty (ap length new.empty) in
    let now = empty.promises.now in
    record {
      told = ap Ok said.0;
      lasts = lasts_for_good _ _ (ap₂ ground_on calling.made.0 calling.made.1 ∙ slots) said.1 now.judged now.goes_on empty.beginnings;
      none_taken_back = none_taken_back _ _ calls said.0 (calling.for_good (omega (arith, ap length calls)));
    }
