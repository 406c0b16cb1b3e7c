use Rattle.std.proofs.Common.{◌≡◌, ◌∙◌, ℕ, List, [], ◌∷◌, codes, decimal, refl}
use Rattle.std.specs.List.{AllByRecursion as All}
use Rattle.logic.specs.declared.types.Rule.{Rule}
use Rattle.words.specs.Words.{word}
use Rattle.fields.specs.Fields.{Solid}
use Rattle.fields.specs.Kinds.{ShowsNone}
use Rattle.fields.proofs.Parted.{solid_decimal}
use Rattle.fields.proofs.Named.{solid_word}
use Rattle.fields.proofs.Shown.{Led, Broken, broken}
use Rattle.rulelines.specs.declared.entries.Entry.{Entry}
use Rattle.rulelines.specs.Formulas as formulas
use Rattle.rulelines.specs.Rules as rules

-- ── formula lines ──
abbrev pub formula_keys : List (List ℕ)
formula_keys = codes "f=" ∷ codes " op=" ∷ codes " a=" ∷ codes " b=" ∷ []

abbrev pub formula_texts : Entry → List (List ℕ)
formula_texts v = decimal v.number ∷ word v.operator ∷ decimal v.a ∷ decimal v.b ∷ []

pub formula_led : Led formula_keys
formula_led = (refl, (refl, (refl, tt)))

pub formula_solids : (v : Entry) → formulas.Formed v → All Solid (formula_texts v)
formula_solids v f = (solid_decimal _ f.number, (solid_word v.operator, (solid_decimal _ f.a, (solid_decimal _ f.b, tt))))

-- a line that breaks off, whatever entry it is held against, is no formula line
pub no_formula : (before line : List ℕ) → before ≡ line → ((v : Entry) → formulas.Formed v → Broken before formula_keys (formula_texts v)) → ShowsNone (formulas.formula_kind 0) line
no_formula before line same b v f e = broken (b v f) formula_led (formula_solids v f) (same ∙ e)

-- ── rule lines ──
abbrev pub rule_keys : List (List ℕ)
rule_keys = codes "r=" ∷ codes " when=" ∷ codes " expect=" ∷ []

abbrev pub rule_texts : ℕ → Rule → List (List ℕ)
rule_texts i r = decimal i ∷ decimal r.condition ∷ decimal r.content ∷ []

pub rule_led : Led rule_keys
rule_led = (refl, (refl, tt))

pub rule_solids : (i : ℕ) (r : Rule) → rules.Formed i r → All Solid (rule_texts i r)
rule_solids i r f = (solid_decimal _ f.number, (solid_decimal _ f.condition, (solid_decimal _ f.content, tt)))

pub no_rule_line : (before line : List ℕ) → before ≡ line → ((i : ℕ) (r : Rule) → rules.Formed i r → Broken before rule_keys (rule_texts i r)) → ShowsNone (rules.rule_kind 0) line
no_rule_line before line same b v f e = broken (b v.0 v.1 f) rule_led (rule_solids v.0 v.1 f) (same ∙ e)
