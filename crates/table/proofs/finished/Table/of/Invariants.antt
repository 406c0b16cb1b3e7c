use Rattle.std.proofs.Common.{◌≡◌, [], take}
use Rattle.table.specs.Tables.{formulas_of, rules_of}
use Rattle.table.proofs.finished.Table.of.Given as goal

abbrev pub invariant-loop-formula : goal.invariant-loop-formula
invariant-loop-formula l = record { formulas : formulas_of l.draft ≡ take l.formula-index l.formulas; rules : rules_of l.draft ≡ [] }

abbrev pub invariant-loop-rule : goal.invariant-loop-rule
invariant-loop-rule l = record { formulas : formulas_of l.draft ≡ l.formulas; rules : rules_of l.draft ≡ take l.rule-index l.rules }
