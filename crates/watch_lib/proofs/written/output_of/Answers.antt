use Rattle.std.proofs.Common.{vec_items, string_bytes, ap, ◌∙◌}
use Rattle.std.proofs.lemmas.Result.{IfOk-weaker}
use Rattle.watch_lib.specs.Lines.{lines_text}
use Rattle.watch_lib.specs.Printed.{Printed}
use Rattle.watch_lib.proofs.written.output_of.Goals as goal

pub returns : goal.returns
returns c =
    IfOk-weaker c.joined.result _ (λ s. Printed c.args.input.now (string_bytes s))
    (λ s e. (vec_items c.in_ok-lines.lines, c.in_ok-lines.ensures.lines, e ∙ ap lines_text c.as_slice.ensures.value)) c.joined.ensures
