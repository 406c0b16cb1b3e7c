use Rattle.std.specs.List.{All}
use Rattle.labelling.specs.Bound.{Grown, Wanted}
use Rattle.labelling.proofs.wants.want_parts.Given as goal

-- what the parts so far have left
abbrev pub invariant-loop-part : goal.invariant-loop-part
invariant-loop-part l = Grown l.f l.flags l.fn.wanted l.wanted × All (Wanted l.flags l.wanted) l.yielded
