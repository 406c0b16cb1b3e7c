use Rattle.std.proofs.Common.{string_bytes}
use Rattle.watch_lib.proofs.Joining.{text_more}
use Rattle.watch_lib.proofs.written.joined.Goals as goal

pub loop-line-preserved : goal.loop-line-preserved
loop-line-preserved c =
    text_more c.args.lines.now c.loop-line.line-index _ (string_bytes c.loop-line.text) _ c.loop-line-test.true c.loop-line.invariant c.in_ok-writeln.ensures.bytes
