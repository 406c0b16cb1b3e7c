use Rattle.std.proofs.Common.{◌^◌, ◌<◌, length, get_or, arith}
use Rattle.std.specs.Int.{IsInRange}
use Rattle.fields.proofs.Numerals.{Form, number_form, so_far, digit_step, no_digit, ended}
use Rattle.fields.proofs.numbers.number.Goals.{in_default, in_default-2}
use Rattle.fields.proofs.numbers.number.Goals as goal

pub returns-then-not-is_ascii_digit : goal.returns-then-not-is_ascii_digit
returns-then-not-is_ascii_digit c n h = let d = no_digit c.args.text.now c.loop-b.b-index n (omega arith) h in grind (arith, d.0, d.1)

pub overflow_mul-n : goal.overflow_mul-n
overflow_mul-n c = let s : c.loop-b.n < 10 ^ 10 = so_far c.args.text.now c.loop-b.b-index c.loop-b.n (omega arith) (omega arith) c.loop-b.invariant.0 c.loop-b.invariant.1 in omega arith

pub overflow_add-n : goal.overflow_add-n
overflow_add-n c = let s : c.loop-b.n < 10 ^ 10 = so_far c.args.text.now c.loop-b.b-index c.loop-b.n (omega arith) (omega arith) c.loop-b.invariant.0 c.loop-b.invariant.1 in grind (arith, s)

pub loop-b-preserved : goal.loop-b-preserved
loop-b-preserved c =
    let d : IsInRange 48 57 (get_or c.args.text.now c.loop-b.b-index 0) = grind arith in
    rw c.from.ensures (digit_step c.args.text.now c.loop-b.b-index c.loop-b.n (omega arith) (omega arith) c.loop-b.invariant.0 c.loop-b.invariant.1 d.0 d.1)

pub returns-in-empty : goal.returns-in-empty
returns-in-empty c n h =
    let f : Form c.args.text.now = number_form c.args.text.now n h in omega (arith, f.lead (omega arith))

pub returns-then-text-gt-MOST_DIGITS : goal.returns-then-text-gt-MOST_DIGITS
returns-then-text-gt-MOST_DIGITS c n h = let f : Form c.args.text.now = number_form c.args.text.now n h in omega (arith, f.few)

pub returns-in-empty-2 : goal.returns-in-empty-2
returns-in-empty-2 c n h = let f : Form c.args.text.now = number_form c.args.text.now n h in omega (arith, f.lead (omega arith))

pub returns : goal.returns
returns c =
    let s : 0 < length c.args.text.now = elim c.if-text-lt2.branch [ in_default w ↦ grind (arith, w.in_default) | in_default-2 w ↦ grind (arith, w.in_default) ] in
    ended c.args.text.now c.loop-b.b-index c.loop-b.n c.loop-b-test.false c.loop-b.invariant.0 c.loop-b.invariant.1 s (omega arith)
    (elim c.if-text-lt2.branch [ in_default w ↦ λ z. grind (arith, s, w.in_default) | in_default-2 w ↦ λ z. grind (arith, s, w.in_default, z) ])
