-- Labels as they are handed out: dated ones as numbers, and strips as two masks.
use Rattle.std.specs.Prelude.{◌≡◌, ℕ, ◌*◌, ◌<◌, min, ◌⊎◌, List, length, drop, ℤ, pos, negsuc, ◌≤ℤ◌, slice_index_or}
use Rattle.std.specs.List.{zip}
use Rattle.logic.specs.declared.types.Formula.{Formula}
use Rattle.logic.specs.declared.types.State.{State}
use Rattle.labels.specs.Readings.{Reading}
use Rattle.labels.specs.Dated.{dated}
use Rattle.strips.specs.Masks.{strip}
use Rattle.bench_calls.specs.declared.outcome.Outcome.{Outcome}
use Rattle.bench_calls.specs.Outcomes.{done}
use Rattle.bench_calls.specs.Labelled.{Source, Unlabelled, Suits, EachLabel}

-- ── numbers ──

-- the first numbers, each from -256 to 256, are the labels, and the later ones are as they were
pub record Dates (formulas : List Formula) (xs : List State) (old new : List ℤ) : Type 0 where
  pub suits : Suits 256 (length old) formulas xs
  pub labels : EachLabel dated 256 formulas xs new
  pub range : (k : ℕ) (d : ℤ) → k < length formulas * length xs → (negsuc 255 ≤ℤ slice_index_or new k d) × (slice_index_or new k d ≤ℤ pos 256)
  pub later : drop (length formulas * length xs) new ≡ drop (length formulas * length xs) old

-- the text is labelled, or not, and then the numbers are as they were
abbrev pub DatesTold : (text : List ℕ) → (old : List ℤ) → Outcome → (new : List ℤ) → Type 0
DatesTold text old o new =
    (Unlabelled 256 (length old) text o × (new ≡ old))
    ⊎ ((formulas : List Formula) × (xs : List State) × Source text formulas xs × Dates formulas xs old new × (o ≡ done (length xs)))

-- ── masks ──

-- a weak and a strong mask, read as one label
abbrev pub in_masks : ℕ × ℕ → Reading
in_masks m = strip m.0 m.1

-- the first masks are the labels, and the later ones are as they were
pub record Masks (formulas : List Formula) (xs : List State) (old_weak old_strong weak strong : List ℕ) : Type 0 where
  pub suits : Suits 64 (min (length old_weak) (length old_strong)) formulas xs
  pub labels : EachLabel in_masks 64 formulas xs (zip weak strong)
  pub later_weak : drop (length formulas * length xs) weak ≡ drop (length formulas * length xs) old_weak
  pub later_strong : drop (length formulas * length xs) strong ≡ drop (length formulas * length xs) old_strong

-- the text is labelled, or not, and then the masks are as they were
abbrev pub MasksTold : (text : List ℕ) → (old_weak old_strong : List ℕ) → Outcome → (weak strong : List ℕ) → Type 0
MasksTold text old_weak old_strong o weak strong =
    (Unlabelled 64 (min (length old_weak) (length old_strong)) text o × (weak ≡ old_weak) × (strong ≡ old_strong))
    ⊎ ((formulas : List Formula) × (xs : List State) × Source text formulas xs × Masks formulas xs old_weak old_strong weak strong × (o ≡ done (length xs)))
