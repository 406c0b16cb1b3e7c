-- What stands in a line, place by place: keys, and under each a text without spaces.
use Rattle.std.specs.Prelude.{◌≡◌, ℕ, ◌+◌, ◌≤◌, List, [], ◌∷◌, ◌++◌, length, drop, decimal, ◌≢◌, slice_index, Option, MatchOption}
use Rattle.words.specs.Words.{word}
use Rattle.words.specs.declared.Operator.{Operator}
use Rattle.keys.specs.Found.{NoKey}
use Rattle.fields.specs.Lines.{Small, Free}
use Rattle.fields.specs.declared.parts.Field.{Field}
use Rattle.fields.specs.declared.parts.Field.TheVariants.{Word, Number, End}

-- a text that is empty or begins with byte c
abbrev pub Ends : (c : ℕ) → List ℕ → Type 0
Ends c [] = Unit {0}
Ends c (b ∷ bs) = b ≡ c

-- a field holds no space, and what follows it is nothing or begins with a space
abbrev pub Solid : List ℕ → Type 0
Solid t = Free 32 t

abbrev pub Stop : List ℕ → Type 0
Stop t = Ends 32 t

-- a field that begins at a place
pub record Part (line : List ℕ) (at : ℕ) (t : List ℕ) (place : ℕ) : Type 0 where
  pub same : place ≡ at
  pub within : at + length t ≤ length line
  pub parted : drop at line ≡ t ++ drop (at + length t) line
  pub solid : Solid t
  pub stops : Stop (drop (at + length t) line)

abbrev pub Digit : ℕ → Type 0
Digit b = (48 ≤ b) × (b ≤ 57)

abbrev pub Stands : List ℕ → ℕ → Field → Type 0
Stands line at (Word t place) = Part line at t.now place × (Digit (slice_index t.now 0) → ⊥)
Stands line at (Number t place) = Part line at t.now place × Digit (slice_index t.now 0)
Stands line at End = Stop (drop at line)

-- a key comes next, and a field of the line stands after it
pub record Under (line before key : List ℕ) (f : Field) : Type 0 where
  pub at : ℕ
  pub within : at ≤ length line
  pub keyed : before ≡ key ++ drop at line
  pub stands : Stands line at f

-- a key and a text without spaces come next, and then what follows
pub record Took (before key t after : List ℕ) : Type 0 where
  pub solid : Solid t
  pub shows : before ≡ key ++ (t ++ after)
  pub stops : Stop after

-- a key and a number come next
pub record TookNumber (before key : List ℕ) (n : ℕ) (after : List ℕ) : Type 0 where
  pub took : Took before key (decimal n) after
  pub small : Small n

-- no key with a number comes next
abbrev pub NoNumber : (before key : List ℕ) → Type 0
NoNumber before key = (n : ℕ) (u : List ℕ) → Small n → Stop u → before ≢ key ++ (decimal n ++ u)

-- no key with an operator's word comes next
abbrev pub NoOperator : (before key : List ℕ) → Type 0
NoOperator before key = (o : Operator) (u : List ℕ) → Stop u → before ≢ key ++ (word o ++ u)

-- ── what a reader of fields answers, where `before` is not read yet, and `after` is not read then ──

-- the field of a line that stands under a key, if that key comes next
abbrev pub FindsUnder : (line before key : List ℕ) → Option Field → Type 0
FindsUnder line before key o = MatchOption o (NoKey before key) (λ f. Under line before key f)

-- the number under a key, if that key with a number comes next
abbrev pub ReadsNumber : (before key : List ℕ) → Option ℕ → (after : List ℕ) → Type 0
ReadsNumber before key o after = MatchOption o (NoNumber before key) (λ n. TookNumber before key n after)

-- the operator whose word stands under a key, if that key with an operator's word comes next
abbrev pub ReadsOperator : (before key : List ℕ) → Option Operator → (after : List ℕ) → Type 0
ReadsOperator before key o after = MatchOption o (NoOperator before key) (λ operator. Took before key (word operator) after)
