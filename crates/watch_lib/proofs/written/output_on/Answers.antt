use Rattle.std.proofs.Common.{vec_items, string_bytes, ap, ◌∙◌}
use Rattle.std.proofs.lemmas.Result.{IfOk-weaker}
use Rattle.watch_lib.specs.Lines.{lines_text}
use Rattle.watch_lib.specs.Printed.{PrintedOn}
use Rattle.watch_lib.proofs.written.output_on.Goals as goal

pub returns : goal.returns
returns c =
    IfOk-weaker c.joined.result _ (λ s. PrintedOn c.args.input.now c.args.seen (string_bytes s))
    (λ s e. (vec_items c.in_ok-lines.lines, c.in_ok-lines.ensures, e ∙ ap lines_text c.as_slice.ensures.value)) c.joined.ensures
