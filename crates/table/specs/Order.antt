-- When a list of formulas and a list of rules are in order.
use Rattle.std.specs.Prelude.{◌≡◌, ℕ, ◌<◌, ◌≤◌, true, false, ◌⊎◌, List, length, slice_index_or}
use Rattle.std.specs.Coded.{×_prop, Π_prop, →_prop, Unit-prop, le_prop}
use Rattle.logic.specs.declared.types.Formula.{Formula}
use Rattle.logic.specs.declared.types.Formula.TheVariants.{True, Signal, Nominal, Not, And, Or, Next, Previous, Until, Since, At, Reference, Bind, Some}
use Rattle.logic.specs.declared.types.Rule.{Rule}
use Rattle.logic.specs.Tables.{no_rule, InRange, EachPart, OrderlyTable, loose}

-- a rule may join the formulas: it names two of them, and neither is loose
abbrev pub NamesFormulas : List Formula → Rule → Type 0
NamesFormulas formulas rule = (rule.condition < length formulas) × (rule.content < length formulas)

abbrev pub NamesLoose : List Formula → Rule → Type 0
NamesLoose formulas rule = (loose formulas rule.condition ≡ true) ⊎ (loose formulas rule.content ≡ true)

abbrev pub Ruled : List Formula → Rule → Type 0
Ruled formulas rule =
    NamesFormulas formulas rule × (loose formulas rule.condition ≡ false) × (loose formulas rule.content ≡ false)

-- so may each of the rules
abbrev pub EachRuled : List Formula → List Rule → Type 0
EachRuled formulas rules = (r : ℕ) → r < length rules → Ruled formulas (slice_index_or rules r no_rule)

-- the formulas and rules of a table are in order
pub record InOrder (formulas : List Formula) (rules : List Rule) : Type 0 where
  pub few : length formulas ≤ 64
  pub orderly : OrderlyTable formulas
  pub short : length rules ≤ 16
  pub ruled : EachRuled formulas rules

-- The order of the formulas has one proof at most, as a fact of a type must.
pub InRange-prop : (φ : Formula) → IsProp (InRange φ)
InRange-prop (Signal b) = le_prop
InRange-prop (Nominal a) = ×_prop le_prop le_prop
InRange-prop (At a f) = ×_prop le_prop le_prop
InRange-prop (Reference a) = ×_prop le_prop le_prop
InRange-prop (Some a f) = ×_prop le_prop le_prop
InRange-prop _ = Unit-prop

pub EachPart-prop : (P : ℕ → Type 0) → ((k : ℕ) → IsProp (P k)) → (φ : Formula) → IsProp (EachPart P φ)
EachPart-prop P p (Not f) = p f
EachPart-prop P p (And f g) = ×_prop (p f) (p g)
EachPart-prop P p (Or f g) = ×_prop (p f) (p g)
EachPart-prop P p (Next f) = p f
EachPart-prop P p (Previous f) = p f
EachPart-prop P p (Until f g) = ×_prop (p f) (p g)
EachPart-prop P p (Since f g) = ×_prop (p f) (p g)
EachPart-prop P p (At a f) = p f
EachPart-prop P p (Bind f) = p f
EachPart-prop P p (Some a f) = p f
EachPart-prop P p _ = Unit-prop

pub OrderlyTable-prop : (table : List Formula) → IsProp (OrderlyTable table)
OrderlyTable-prop table =
    Π_prop (λ f. →_prop (×_prop (InRange-prop (slice_index_or table f True)) (EachPart-prop (λ g. g < f) (λ g. le_prop) (slice_index_or table f True))))
