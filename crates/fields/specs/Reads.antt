-- What a text that should begin with a line is read as, by a reader of the line's form and one of its ranges. `Form line o` says
-- that the line may be read as o, and `Range shown o` that what it shows may be.
use denote.Bor.{Bor}
use Rattle.std.specs.Prelude.{◌≡◌, ℕ, ◌+◌, List, length, drop, Some, None, Option, Result, MatchResult}
use Rattle.std.specs.Fn.{Once, FnOnceReturns}
use Rattle.faults.specs.declared.line.LineFault.{LineFault}
use Rattle.faults.specs.declared.line.LineFault.TheVariants as fault
use Rattle.fields.specs.Lines.{FirstLine, Torn}
use Rattle.fields.specs.declared.lines.Taken.{Taken}

-- the text begins with this line
abbrev pub Leads : (text line : List ℕ) → Type 0
Leads text line = FirstLine text line (drop (length line + 1) text)

-- the line that the text begins with, or the fault that it begins with none, with the place that the line should have
abbrev pub FindsLine : (text : List ℕ) → (place : ℕ) → Result (Bor (List ℕ)) LineFault → Type 0
FindsLine text place r = MatchResult r (λ line. Leads text line.now) (λ e. (e ≡ fault.Torn place) × Torn text)

-- o is what the call of a closure at n may give
abbrev pub Gives : {G N T : Type 0} → Once G (N × Unit {0}) T → G → N → T → Type 0
Gives g range n o = FnOnceReturns g range (n, tt) o

-- this is said of the first line
pub record OfFirst (Says : List ℕ → Type 0) (text : List ℕ) : Type 0 where
  pub line : List ℕ
  pub first : Leads text line
  pub says : Says line

module _ {N T : Type 0} (Form : List ℕ → Option N → Type 0) (Range : N → Option T → Type 0) where
  -- the line shows something, of which the ranges give o
  pub record Shown (o : Option T) (line : List ℕ) : Type 0 where
    pub shown : N
    pub formed : Form line (Some shown)
    pub ranged : Range shown o

  -- the fault that fits
  abbrev pub Fails : (text : List ℕ) → (place : ℕ) → LineFault → Type 0
  Fails text place (fault.Torn at) = (at ≡ place) × Torn text
  Fails text place (fault.Form at) = (at ≡ place) × OfFirst (λ line. Form line None) text
  Fails text place (fault.Range at) = (at ≡ place) × OfFirst (Shown None) text

  pub record ReadsLine (text : List ℕ) (place : ℕ) (r : Result (Taken T) LineFault) : Type 0 where
    pub answer : MatchResult r
        (λ a. (j : OfFirst (Shown (Some a.value)) text) × (a.used ≡ length j.line + 1))
        (Fails text place)
