use Rattle.std.proofs.Common.{sym}
use Rattle.std.proofs.lemmas.List.{length-take-le}
use Rattle.example_logs.proofs.Parting.{alike_within, parted}
use Rattle.example_logs.proofs.comparing.first_difference.Goals as goal

pub slice_bounds-count_line_ends-end : goal.slice_bounds-count_line_ends-end
slice_bounds-count_line_ends-end c =
    rw c.count_alike-alike.ensures (sym (length-take-le _ c.args.ours.now (alike_within c.args.ours.now c.args.theirs.now)))

pub returns : goal.returns
returns c = rw (c.count_line_ends.ensures, c.count_alike-alike.ensures) (parted c.args.ours.now c.args.theirs.now (sym c.if-eq.ensures))
