use Rattle.table.specs.Tables.{formulas_of}
use Rattle.rulestexts.proofs.Progress.{Rules}
use Rattle.rulestexts.proofs.sections.read_rules.Given as goal

abbrev pub invariant-loop-k : goal.invariant-loop-k
invariant-loop-k l = Rules l.text (formulas_of l.initial.draft) l.head.value l.k l.rest l.draft
