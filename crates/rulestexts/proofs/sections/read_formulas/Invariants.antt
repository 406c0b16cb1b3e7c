use Rattle.rulestexts.proofs.Progress.{Formulas}
use Rattle.rulestexts.proofs.sections.read_formulas.Given as goal

abbrev pub invariant-loop-k : goal.invariant-loop-k
invariant-loop-k l = Formulas l.text l.head.value l.k l.rest l.draft
