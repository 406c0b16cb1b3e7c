use Rattle.fields.proofs.Parted.{not_number, not_decimal}
use Rattle.fields.proofs.values.Fields.number.Goals as goal

pub returns-in_default-clause-read : goal.returns-in_default-clause-read
returns-in_default-clause-read g c = not_number _ _ _ c.in_ok-text.field-0 c.in_ok-text.ensures c.in_default.not-Number

pub returns-in_err-value-clause-read : goal.returns-in_err-value-clause-read
returns-in_err-value-clause-read g c =
    rw c.from_residual-in_err-value.ensures
    (not_decimal _ _ _ c.in_ok-text.field-0 c.in_ok-text.ensures c.in-Number.text c.in-Number.place c.in-Number.is c.in_err-value.ensures)
