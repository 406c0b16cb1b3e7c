use Rattle.fields.proofs.Parted.{not_word, not_named}
use Rattle.fields.proofs.values.Fields.operator.Goals as goal

pub returns-in_default-clause-read : goal.returns-in_default-clause-read
returns-in_default-clause-read g c = not_word _ _ _ c.in_ok-text.field-0 c.in_ok-text.ensures c.in_default.not-Word

pub returns-in_err-operator-clause-read : goal.returns-in_err-operator-clause-read
returns-in_err-operator-clause-read g c =
    rw c.from_residual-in_err-operator.ensures
    (not_named _ _ _ c.in_ok-text.field-0 c.in_ok-text.ensures c.in-Word.text c.in-Word.place c.in-Word.is c.in_err-operator.ensures)
