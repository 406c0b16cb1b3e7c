-- No defect is found in a rule that may join the formulas. Assumes nothing.
use Rattle.std.proofs.Common.{◌≡◌, ℕ, ◌<◌, true, List, subst, ⊎_elim, arith}
use Rattle.std.proofs.lemmas.Bool.{both_ways}
use Rattle.logic.specs.declared.types.Formula.{Formula}
use Rattle.logic.specs.declared.types.Rule.{Rule}
use Rattle.logic.specs.Tables.{loose}
use Rattle.table.specs.declared.defects.Defect.{Defect}
use Rattle.table.specs.declared.defects.Defect.TheVariants.{OutOfRange, NoSuchFormula, LooseRule}
use Rattle.table.specs.Tables.{NamesLoose, Ruled, RuleDefect}

pub not_loose : (formulas : List Formula) (r : Rule) → Ruled formulas r → NamesLoose formulas r → ⊥
not_loose formulas r a x =
    ⊎_elim
    (λ (h : loose formulas r.condition ≡ true). both_ways (loose formulas r.condition) a.1 h)
    (λ (h : loose formulas r.content ≡ true). both_ways (loose formulas r.content) a.2 h) x

fits : (formulas : List Formula) (m : ℕ) (r : Rule) (why : Defect) → m < 16 → Ruled formulas r → RuleDefect formulas m r why → ⊥
fits formulas m r OutOfRange h a d = omega (arith, d)
fits formulas m r NoSuchFormula h a d = d.1 a.0
fits formulas m r LooseRule h a d = not_loose formulas r a d.2
fits formulas m r _ h a d = d

-- the same of formulas and a rule that are known by equations
pub not_refused : (formulas known : List Formula) (m : ℕ) (rule r : Rule) (why : Defect) →
    RuleDefect formulas m rule why → formulas ≡ known → rule ≡ r → m < 16 → Ruled known r → ⊥
not_refused formulas known m rule r why d e f h a =
    fits known m r why h a (subst (λ z. RuleDefect known m z why) f (subst (λ z. RuleDefect z m rule why) e d))
