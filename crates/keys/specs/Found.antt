-- Whether a text begins with a key.
use denote.Bor.{Bor}
use Rattle.std.specs.Prelude.{◌≡◌, ℕ, List, ◌++◌, ◌≢◌, Option, MatchOption}

-- the text does not begin with the key
abbrev pub NoKey : (text key : List ℕ) → Type 0
NoKey text key = (rest : List ℕ) → text ≢ key ++ rest

-- what follows the key in a text that begins with it, or nothing where the text does not
abbrev pub AfterKey : (text key : List ℕ) → Option (Bor (List ℕ)) → Type 0
AfterKey text key o = MatchOption o (NoKey text key) (λ rest. text ≡ key ++ rest.now)
