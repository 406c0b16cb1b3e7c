use Rattle.std.proofs.Common.{inl, ap, length, arith}
use Rattle.textrecord.proofs.Next.{few}
use Rattle.textrecord.proofs.text.TextRecordReadable.count.Goals as goal

pub count-requires-clause-fits : goal.count-requires-clause-fits
count-requires-clause-fits c = inl (omega (arith, few 256 0 c.args.self.now.text.now, ap length c.states.ensures))
