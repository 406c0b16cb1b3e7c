use Rattle.labelling.specs.Whole.{Labelled}
use Rattle.table.specs.Tables.{formulas_of}
use Rattle.bench_calls.proofs.labelled.label_again.Given as goal

abbrev pub invariant-loop : goal.invariant-loop
invariant-loop g l = Labelled g.K.LabelKind.reads g.K.LabelKind.reach (formulas_of l.table.draft) (g.R.Readable.states l.log) l.fn.cells l.fn.work l.cells l.work
