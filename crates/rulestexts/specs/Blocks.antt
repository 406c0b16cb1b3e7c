-- Blocks of a rules text: a line that counts n, and n numbered lines.
use Rattle.std.specs.Prelude.{ℕ, ◌+◌, ◌<◌, List, length}
use Rattle.faults.specs.declared.read.ReadFault.{ReadFault}
use Rattle.fields.specs.Runs.{Run}

-- a kind of block: what its lines are taken as, and why they are refused
pub record Block (A : Type 0) : Type 1 where
  -- the text begins with the line that counts n, and `rest` follows
  pub Counts : (n : ℕ) → (text rest : List ℕ) → Type 0
  pub CountRefused : (text : List ℕ) → (place : ℕ) → ReadFault → Type 0
  -- the text begins with the line of x as number k, and `rest` follows
  pub Line : (k : ℕ) → A → (text rest : List ℕ) → Type 0
  pub LineRefused : (k : ℕ) → (text : List ℕ) → (place : ℕ) → ReadFault → Type 0

-- the text begins with a count of n and the lines of xs, and `rest` follows
pub record Begins {A : Type 0} (B : Block A) (n : ℕ) (xs : List A) (text rest : List ℕ) : Type 0 where
  pub middle : List ℕ
  pub counts : B.Counts n text middle
  pub run : Run B.Line 0 xs middle rest

-- The block is refused at its first bad line. Its count stands at `place`.
pub data Stops {A : Type 0} (B : Block A) (text : List ℕ) (place : ℕ) (e : ReadFault) : Type 0 where
  at_count : B.CountRefused text place e → Stops B text place e
  at_line : (n : ℕ) (xs : List A) (rest : List ℕ) → Begins B n xs text rest → length xs < n
      → B.LineRefused (length xs) rest (place + 1 + length xs) e → Stops B text place e
