-- The two blocks of a rules text: formulas and rules.
use Rattle.std.specs.Prelude.{◌≡◌, ℕ, ◌<◌, List, codes}
use Rattle.logic.specs.declared.types.Formula.{Formula}
use Rattle.logic.specs.declared.types.Rule.{Rule}
use Rattle.logic.specs.Tables.{EachPart}
use Rattle.table.specs.Tables.{NamesFormulas, NamesLoose, Ruled}
use Rattle.faults.specs.declared.table.TableFault.TheVariants.{Dangling, Loose}
use Rattle.faults.specs.declared.read.ReadFault.{ReadFault}
use Rattle.faults.specs.declared.read.ReadFault.TheVariants.{Line, Table}
use Rattle.fields.specs.Kinds.{Kind, Fits, Refuses}
use Rattle.rulelines.specs.declared.entries.Entry.{Entry}
use Rattle.rulelines.specs.Counts.{count_kind}
use Rattle.rulelines.specs.Formulas.{formula_kind}
use Rattle.rulelines.specs.Meanings.{meaning}
use Rattle.rulelines.specs.Rules.{rule_kind}
use Rattle.rulestexts.specs.Blocks.{Block}

-- a line that can have no fault but a line's
abbrev pub LineOnly : Kind → (text : List ℕ) → (place : ℕ) → ReadFault → Type 0
LineOnly K text place (Line e) = Refuses K text place e
LineOnly K text place (Table e) = ⊥

-- ── formulas: each part is below its formula ──
abbrev pub Founded : (k : ℕ) → Formula → Type 0
Founded k φ = EachPart (λ g. g < k) φ

abbrev pub FormulaFits : (k : ℕ) → Entry → (text rest : List ℕ) → Type 0
FormulaFits k v text rest = Fits (formula_kind k) text v rest × Founded k (meaning v)

abbrev pub FormulaRefused : (k : ℕ) → (text : List ℕ) → (place : ℕ) → ReadFault → Type 0
FormulaRefused k text place (Line e) = Refuses (formula_kind k) text place e
FormulaRefused k text place (Table (Dangling at)) =
    (at ≡ place) × ((v : Entry) × (rest : List ℕ) × Fits (formula_kind k) text v rest × (Founded k (meaning v) → ⊥))
FormulaRefused k text place (Table (Loose at)) = ⊥

abbrev pub count_of_formulas : Kind
count_of_formulas = count_kind (codes "formulas=") 64

abbrev pub formula_block : Block Entry
formula_block = record {
  Counts = λ n text rest. Fits count_of_formulas text n rest;
  CountRefused = LineOnly count_of_formulas;
  Line = FormulaFits;
  LineRefused = FormulaRefused;
}

-- ── rules: each names two formulas, and neither is loose ──
abbrev pub RuleFits : List Formula → (k : ℕ) → Rule → (text rest : List ℕ) → Type 0
RuleFits formulas k r text rest = Fits (rule_kind k) text (k, r) rest × Ruled formulas r

abbrev pub RuleRefused : List Formula → (k : ℕ) → (text : List ℕ) → (place : ℕ) → ReadFault → Type 0
RuleRefused formulas k text place (Line e) = Refuses (rule_kind k) text place e
RuleRefused formulas k text place (Table (Dangling at)) =
    (at ≡ place) × ((r : Rule) × (rest : List ℕ) × Fits (rule_kind k) text (k, r) rest × (NamesFormulas formulas r → ⊥))
RuleRefused formulas k text place (Table (Loose at)) =
    (at ≡ place) × ((r : Rule) × (rest : List ℕ) × Fits (rule_kind k) text (k, r) rest × NamesFormulas formulas r × NamesLoose formulas r)

abbrev pub count_of_rules : Kind
count_of_rules = count_kind (codes "rules=") 16

abbrev pub rule_block : List Formula → Block Rule
rule_block formulas = record {
  Counts = λ n text rest. Fits count_of_rules text n rest;
  CountRefused = LineOnly count_of_rules;
  Line = RuleFits formulas;
  LineRefused = RuleRefused formulas;
}
