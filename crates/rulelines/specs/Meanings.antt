-- The formula that a formula line means.
use Rattle.std.specs.Prelude.{◌≡◌, ℕ, List}
use Rattle.logic.specs.declared.types.Formula.{Formula}
use Rattle.fields.specs.Kinds.{Takes}
use Rattle.rulelines.specs.declared.entries.Entry.{Entry}
use Rattle.rulelines.specs.Operands.{meant}
use Rattle.rulelines.specs.Formulas.{formula_kind}

abbrev pub meaning : Entry → Formula
meaning v = meant v.operator v.a v.b

-- The text's first line is taken as that of formula k, and means φ.
abbrev pub FormulaTaken : (text : List ℕ) → (k : ℕ) → Formula → (used : ℕ) → Type 0
FormulaTaken text k φ used = (v : Entry) × Takes (formula_kind k) text v used × (φ ≡ meaning v)
