-- Which refusal an unlawful record gets: that of its first unlawful state.
use Rattle.std.specs.Prelude.{◌≡◌, ℕ, ◌+◌, ◌<◌, ◌≤◌, List, [], ◌∷◌, ◌++◌, length}
use Rattle.logic.specs.declared.types.State.{State}
use Rattle.logic.specs.States.{Trace, state_at}
use Rattle.logic.specs.Lawful.{NominalTaken, ReferenceUnfit, Fit}
use Rattle.refusals.specs.declared.Refusal.{Refusal}
use Rattle.refusals.specs.declared.Refusal.TheVariants as refusal
use Rattle.refusals.specs.Numbers.{told}

-- the refusal that a state gets: a nominal that is taken goes before an unfit reference
abbrev pub Unlawful : Trace → Refusal → Type 0
Unlawful s (refusal.NominalTaken i) = NominalTaken s i
Unlawful s (refusal.ReferenceUnfit i) = (NominalTaken s i → ⊥) × ReferenceUnfit s i
Unlawful s _ = ⊥

-- the refusal of the record's first state that is not lawful
abbrev pub FirstUnlawful : List State → Refusal → Type 0
FirstUnlawful xs why =
    (1 ≤ (told why).place) × ((told why).place ≤ length xs) × Unlawful (state_at xs) why × ((j : ℕ) → 1 ≤ j → j < (told why).place → Fit (state_at xs) j)

-- the trace of a record with one state more
abbrev pub joined : List State → State → Trace
joined xs x = state_at (xs ++ x ∷ [])

-- a state may follow those of a record
abbrev pub MayFollow : List State → State → Type 0
MayFollow xs x = (length xs < 256) × Fit (joined xs x) (length xs + 1)

-- why it may not: the first reason that fits
abbrev pub MayNotFollow : List State → State → Refusal → Type 0
MayNotFollow xs x refusal.TooManyStates = 256 ≤ length xs
MayNotFollow xs x (refusal.NominalTaken i) = (length xs < 256) × (i ≡ length xs + 1) × NominalTaken (joined xs x) i
MayNotFollow xs x (refusal.ReferenceUnfit i) =
    (length xs < 256) × (i ≡ length xs + 1) × (NominalTaken (joined xs x) i → ⊥) × ReferenceUnfit (joined xs x) i
MayNotFollow xs x _ = ⊥
