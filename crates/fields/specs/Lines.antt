-- Lines and numbers, as a text has them.
use Rattle.std.specs.Prelude.{◌≡◌, ℕ, ◌^◌, ◌<◌, ◌≤◌, List, ◌∷◌, ◌++◌, length, decimal, ◌≢◌}
use Rattle.std.specs.List.{AllByRecursion}

-- a text in which byte c does not occur
abbrev pub Free : (c : ℕ) → List ℕ → Type 0
Free c t = AllByRecursion (λ b. b ≢ c) t

-- ── Numbers: `0`, or one to ten decimal digits without a leading zero ──
abbrev pub Small : ℕ → Type 0
Small n = n < 10 ^ 10

abbrev pub Number : List ℕ → ℕ → Type 0
Number text n = Small n × (text ≡ decimal n)

-- a number above this one is out of range, whatever it stands for
abbrev pub number_limit : ℕ
number_limit = 4294967295

-- a key, a number, and what follows
abbrev pub field : List ℕ → ℕ → List ℕ → List ℕ
field key n rest = key ++ (decimal n ++ rest)

-- ── Lines ──

-- how many bytes a line may have before the byte 10 that ends it
abbrev pub line_limit : ℕ
line_limit = 80

-- a text's first line, and what follows the byte that ends it
pub record FirstLine (text line rest : List ℕ) : Type 0 where
  pub shows : text ≡ line ++ (10 ∷ rest)
  pub plain : Free 10 line
  pub short : length line ≤ line_limit

-- no line end stands where it must
abbrev pub Torn : List ℕ → Type 0
Torn text = (line rest : List ℕ) → FirstLine text line rest → ⊥
