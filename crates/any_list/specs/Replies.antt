-- The table of the rule that a request is replied to, and what a pair of readings tells.
use Rattle.std.specs.Prelude.{◌≡◌, Bool, cond, List, [], ◌∷◌, Ok, Err, Result}
use Rattle.expectations.specs.declared.types.Verdict.{Verdict}
use Rattle.expectations.specs.declared.types.Verdict.TheVariants as is
use Rattle.logic.specs.declared.types.Formula.{Formula}
use Rattle.logic.specs.declared.types.Formula.TheVariants.{Signal, Next, Variable}
use Rattle.logic.specs.declared.types.Rule.{Rule}
use Rattle.table.specs.Tables.{formulas_in, rules_in}
use Rattle.table.specs.declared.defects.Defect.{Defect}
use Rattle.table.specs.declared.finished.Table.{Table}

-- signal 0 is a request, and signal 1 a reply
abbrev pub reply_formulas : List Formula
reply_formulas = Signal 0 ∷ Signal 1 ∷ Next 1 ∷ Variable ∷ []

-- when there is a request, the next state has a reply
abbrev pub reply_rule : Rule
reply_rule = record { condition = 0; content = 2 }

-- the table is made, and not refused
abbrev pub ReplyTable : Result Table Defect → Type 0
ReplyTable (Ok t) = (formulas_in t ≡ reply_formulas) × (rules_in t ≡ reply_rule ∷ [])
ReplyTable (Err why) = ⊥

-- true where it holds strongly, false where it does not hold weakly, and otherwise unknown
abbrev pub read : (weak strong : Bool) → Verdict
read weak strong = cond strong is.True (cond weak is.Unknown is.False)
