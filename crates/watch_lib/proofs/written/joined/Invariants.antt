use Rattle.std.proofs.Common.{◌≡◌, take, string_bytes}
use Rattle.watch_lib.specs.Lines.{lines_text}
use Rattle.watch_lib.proofs.written.joined.Given as goal

abbrev pub invariant-loop-line : goal.invariant-loop-line
invariant-loop-line l = string_bytes l.text ≡ lines_text (take l.line-index l.lines)
