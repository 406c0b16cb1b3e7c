use Rattle.std.proofs.Common.{◌≡◌, [], ◌++◌, take, length, Ok, sym, ap, ◌∙◌, arith}
use Rattle.table.specs.declared.finished.Table.{Table}
use Rattle.monitor.specs.Book.{ground_on}
use Rattle.monitor.specs.Live.{states_of, ground_of, Own}
use Rattle.customer.specs.declared.halves.HalvesRecord.{HalvesRecord}
use Rattle.customer.specs.Tried.{slots}
use Rattle.customer.proofs.Facts.{slots_are, promised_so, answers_are, kept_so}
use Rattle.customer.proofs.tried.tried.Goals as goal

pub returns : goal.returns
returns c =
    let table = c.in_ok-table.ensures in
    let m = c.new-2.result in
    let new = c.new-2.ensures in
    let over : ground_on c.in_ok-table.table 16 ≡ slots = slots_are _ _ table.0 table.1 in
    let empty : states_of m ≡ [] = ap (λ (l : HalvesRecord). take l.count (l.front ++ l.back)) new.1 ∙ c.new.ensures in
    let own : Own m = new.2 ∙ sym (ap length empty) in
    let stands : ground_of m ≡ slots = ap (λ (t : Table). ground_on t 16) new.0 ∙ over in
    let long : length c.call_all.new.answers ≡ 14 = omega arith in
    let ran = c.call_all.ensures.ran (omega (arith, ap length c.calls.ensures)) in
    let said = answers_are _ _ _ _ _ over c.new-3.ensures c.calls.ensures long ran in
    record {
      told = ap Ok said;
      kept = kept_so _ _ c.calls.ensures said (c.call_all.ensures.for_good (omega (arith, ap length c.calls.ensures)));
      law = promised_so _ _ stands empty (c.judge.ensures own).later;
    }
