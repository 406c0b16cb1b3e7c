-- An answer in which a refusal is told by its number and its place.
use Rattle.std.specs.Prelude.{ℕ, Ok, Err, Result}
use Rattle.refusals.specs.declared.Refusal.{Refusal}
use Rattle.refusals.specs.Numbers.{told}

abbrev pub in_numbers : {T : Type 0} → Result T Refusal → Result T (ℕ × ℕ)
in_numbers (Ok x) = Ok x
in_numbers (Err why) = Err ((told why).number, (told why).place)
