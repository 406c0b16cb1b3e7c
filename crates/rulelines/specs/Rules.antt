-- Rule lines, as they are written.
use Rattle.std.specs.Prelude.{◌≡◌, ℕ, ◌≤◌, List, [], codes}
use Rattle.logic.specs.declared.types.Rule.{Rule}
use Rattle.fields.specs.Lines.{Small, field, number_limit}
use Rattle.fields.specs.Kinds.{Kind}
use Rattle.rulelines.specs.declared.rules.Numbers.{Numbers}

-- the line of rule number i
abbrev pub rule_line : (i : ℕ) → Rule → List ℕ
rule_line i r = field (codes "r=") i (field (codes " when=") r.condition (field (codes " expect=") r.content []))

-- each number has at most ten digits
pub record Formed (i : ℕ) (r : Rule) : Type 0 where
  pub number : Small i
  pub condition : Small r.condition
  pub content : Small r.content

pub record Ranged (k i : ℕ) (r : Rule) : Type 0 where
  pub number : i ≡ k
  pub condition : r.condition ≤ number_limit
  pub content : r.content ≤ number_limit

-- the line of rule k: a number and a rule
abbrev pub rule_kind : (k : ℕ) → Kind
rule_kind k = record {
  Value = ℕ × Rule;
  written = λ v. rule_line v.0 v.1;
  Formed = λ v. Formed v.0 v.1;
  Ranged = λ v. Ranged k v.0 v.1;
}

-- the numbers of a line as a rule, in range or not
abbrev pub rule_meant : Numbers → Rule
rule_meant v = record { condition = v.condition; content = v.content }

-- the value that the numbers of a line show
abbrev pub shown_by : Numbers → ℕ × Rule
shown_by v = (v.number, rule_meant v)
