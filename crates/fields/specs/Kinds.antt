-- The judgement of a line. A kind of line is given by how it is written: what values it can show, and which of them are in range.
use Rattle.std.specs.Prelude.{◌≡◌, ℕ, ◌≤◌, List, length, drop, ◌≢◌}
use Rattle.faults.specs.declared.line.LineFault.{LineFault}
use Rattle.faults.specs.declared.line.LineFault.TheVariants as fault
use Rattle.fields.specs.Lines.{FirstLine, Torn}

pub record Kind : Type 1 where
  pub Value : Type 0
  -- the line that shows a value
  pub written : Value → List ℕ
  -- its numbers have at most ten digits
  pub Formed : Value → Type 0
  -- its numbers are in their ranges
  pub Ranged : Value → Type 0

-- the text's first line shows a value, in the form of the kind
pub record Shows (K : Kind) (text : List ℕ) (v : K.Value) (rest : List ℕ) : Type 0 where
  pub line : FirstLine text (K.written v) rest
  pub formed : K.Formed v

-- the text's first line shows a value in range, and `rest` follows it
pub record Fits (K : Kind) (text : List ℕ) (v : K.Value) (rest : List ℕ) : Type 0 where
  pub shows : Shows K text v rest
  pub ranged : K.Ranged v

-- The first line is taken, which with its end are `used` bytes of the text.
pub record Takes (K : Kind) (text : List ℕ) (v : K.Value) (used : ℕ) : Type 0 where
  pub fits : Fits K text v (drop used text)
  pub within : used ≤ length text

-- a line that shows no value
abbrev pub ShowsNone : Kind → (line : List ℕ) → Type 0
ShowsNone K line = (v : K.Value) → K.Formed v → line ≢ K.written v

-- the text has a first line, and that shows no value
abbrev pub Unformed : Kind → List ℕ → Type 0
Unformed K text = (line : List ℕ) × (rest : List ℕ) × FirstLine text line rest × ShowsNone K line

-- the first line shows a value that is out of range
abbrev pub Unranged : Kind → List ℕ → Type 0
Unranged K text = (v : K.Value) × (rest : List ℕ) × Shows K text v rest × (K.Ranged v → ⊥)

-- The first line is refused: it gets the first number that fits, so its whole form is judged before any range.
abbrev pub Refuses : Kind → (text : List ℕ) → (place : ℕ) → LineFault → Type 0
Refuses K text place (fault.Torn at) = (at ≡ place) × Torn text
Refuses K text place (fault.Form at) = (at ≡ place) × Unformed K text
Refuses K text place (fault.Range at) = (at ≡ place) × Unranged K text

-- The same of a line that stands alone.
pub record TakesLine (K : Kind) (line : List ℕ) (v : K.Value) : Type 0 where
  pub shows : line ≡ K.written v
  pub formed : K.Formed v
  pub ranged : K.Ranged v
