-- What readers of a kind's lines answer: one of a line's form, one of its ranges, and both together on a text's first line.
use Rattle.std.specs.Prelude.{◌≡◌, ℕ, List, Option, Result, MatchOption, MatchResult}
use Rattle.faults.specs.declared.line.LineFault.{LineFault}
use Rattle.fields.specs.declared.lines.Taken.{Taken}
use Rattle.fields.specs.Kinds.{Kind, Takes, Refuses, ShowsNone}

-- The form of a line: what is answered stands for the value that the line shows, or nothing is answered and it shows none.
abbrev pub ReadsForm : (K : Kind) → {A : Type 0} → (value : A → K.Value) → (line : List ℕ) → Option A → Type 0
ReadsForm K value line o = MatchOption o (ShowsNone K line) (λ a. K.Formed (value a) × (line ≡ K.written (value a)))

-- The ranges: x is answered where all is in range, and nothing elsewhere.
abbrev pub GivenIf : {A : Type 0} → (InRange : Type 0) → (x : A) → Option A → Type 0
GivenIf InRange x o = MatchOption o (InRange → ⊥) (λ y. InRange × (y ≡ x))

-- The first line of a text: it is taken for the value that what is answered stands for, or it is refused.
abbrev pub ReadsValue : (K : Kind) → {A : Type 0} → (value : A → K.Value) → (text : List ℕ) → (place : ℕ)
    → Result (Taken A) LineFault → Type 0
ReadsValue K value text place r = MatchResult r (λ a. Takes K text (value a.value) a.used) (λ e. Refuses K text place e)

-- The first line of a text: it is taken for a value that means what is answered, or it is refused.
abbrev pub ReadsMeaning : (K : Kind) → {A : Type 0} → (meaning : K.Value → A) → (text : List ℕ) → (place : ℕ)
    → Result (Taken A) LineFault → Type 0
ReadsMeaning K meaning text place r =
    MatchResult r (λ a. (v : K.Value) × Takes K text v a.used × (a.value ≡ meaning v)) (λ e. Refuses K text place e)
