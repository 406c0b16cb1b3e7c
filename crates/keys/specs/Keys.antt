-- The keys as they are written; but for the first of a line, with the space before it.
use Rattle.std.specs.Prelude.{ℕ, List, codes}
use Rattle.keys.specs.declared.CountKey.{CountKey}
use Rattle.keys.specs.declared.CountKey.TheVariants as count
use Rattle.keys.specs.declared.TraceKey.{TraceKey}
use Rattle.keys.specs.declared.TraceKey.TheVariants as trace
use Rattle.keys.specs.declared.FormulaKey.{FormulaKey}
use Rattle.keys.specs.declared.FormulaKey.TheVariants as formula
use Rattle.keys.specs.declared.RuleKey.{RuleKey}
use Rattle.keys.specs.declared.RuleKey.TheVariants as rule

abbrev pub count_text : CountKey → List ℕ
count_text count.Formulas = codes "formulas="
count_text count.Rules = codes "rules="

abbrev pub trace_text : TraceKey → List ℕ
trace_text trace.State = codes "s="
trace_text trace.Signals = codes " signals="
trace_text trace.Mark = codes " mark="
trace_text trace.FirstKind = codes " ka="
trace_text trace.FirstTarget = codes " ta="
trace_text trace.SecondKind = codes " kb="
trace_text trace.SecondTarget = codes " tb="

abbrev pub formula_text : FormulaKey → List ℕ
formula_text formula.Number = codes "f="
formula_text formula.Operator = codes " op="
formula_text formula.First = codes " a="
formula_text formula.Second = codes " b="

abbrev pub rule_text : RuleKey → List ℕ
rule_text rule.Number = codes "r="
rule_text rule.When = codes " when="
rule_text rule.Expect = codes " expect="
