-- What a refusal of the monitor's layer tells: its number, its layer and its place.
use Rattle.std.specs.Prelude.{ℕ, List, ◌++◌, codes, decimal}
use Rattle.faults.specs.Refusals.{Refusal as Told}
use Rattle.faults.specs.declared.layer.Layer.TheVariants.{Monitor}
use Rattle.refusals.specs.declared.Refusal.{Refusal}
use Rattle.refusals.specs.declared.Refusal.TheVariants.{ForeignRecord, TooManyStates, RecordFull, MemoryTooShort, NominalTaken, ReferenceUnfit, NoSuchName, LooseFormula, NoSuchState, NoSuchPoint}

abbrev pub numbered : (number place : ℕ) → Told
numbered n p = record { number = n; layer = Monitor; place = p }

-- the place is the state for 10 and 11, and 0 otherwise
abbrev pub told : Refusal → Told
told ForeignRecord = numbered 6 0
told TooManyStates = numbered 7 0
told RecordFull = numbered 8 0
told MemoryTooShort = numbered 9 0
told (NominalTaken i) = numbered 10 i
told (ReferenceUnfit i) = numbered 11 i
told NoSuchName = numbered 12 0
told LooseFormula = numbered 13 0
told NoSuchState = numbered 14 0
told NoSuchPoint = numbered 15 0

-- the bytes of a refusal
abbrev pub refusal_text : Refusal → List ℕ
refusal_text x = codes "refused=" ++ (decimal (told x).number ++ (codes " place=" ++ decimal (told x).place))
