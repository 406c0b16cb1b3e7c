use Rattle.std.proofs.Common.{◌≡◌, length, Ok, refl, ap, arith}
use Rattle.customer.proofs.Facts.{holds_some, all_refused}
use Rattle.customer.proofs.tried.held.Goals as goal

pub returns : goal.returns
returns c =
    let some = holds_some _ _ _ _ c.append.ensures.appended in
    let long : length c.call_all.new.answers ≡ 3 = omega arith in
    ap Ok (all_refused _ _ _ _ _ some refl long (c.call_all.ensures.ran (omega arith)))
