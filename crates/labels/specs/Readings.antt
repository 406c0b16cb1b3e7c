-- What a label means: its weak and its strong reading at every truncation point (on the shop floor: cut). It is true at a point
-- where both hold, false where neither does, and unknown (on the shop floor: open) where only the weak one does.
use Rattle.std.specs.Prelude.{◌≡◌, ℕ, ◌<◌, ◌≤◌, Bool, true, false, cond, not, ◌&&◌, ◌||◌, nat_lt}

-- whether the formula holds: weakly at true and strongly at false, at a truncation point
abbrev pub Reading : Type 0
Reading = Bool → ℕ → Bool

-- equal at every point from 1 to n
abbrev pub Same : ℕ → Reading → Reading → Type 0
Same n f g = (e : Bool) (c : ℕ) → 0 < c → c ≤ n → f e c ≡ g e c

-- unknown at every point
abbrev pub opened : Reading
opened e c = e

-- v from point i on, and unknown before
abbrev pub fixed : ℕ → Bool → Reading
fixed i v e c = cond (nat_lt c i) e v

-- a negation holds in one reading where its part does not in the other
abbrev pub negated : Reading → Reading
negated f e c = not (f (not e) c)

abbrev pub both : Reading → Reading → Reading
both f g e c = f e c && g e c

abbrev pub either : Reading → Reading → Reading
either f g e c = f e c || g e c

-- f from point i on, and unknown before
abbrev pub seen : ℕ → Reading → Reading
seen i f e c = cond (nat_lt c i) e (f e c)

-- what holds strongly holds weakly, at every point from 1 to n
abbrev pub Sound : ℕ → Reading → Type 0
Sound n f = (c : ℕ) → (0 < c) × (c ≤ n) × (f false c ≡ true) → f true c ≡ true

-- a point at which the readings agree fixes both at every later point up to n
abbrev pub Settled : ℕ → Reading → Type 0
Settled n f = (c d : ℕ) → (0 < c) × (c ≤ d) × (d ≤ n) × (f true c ≡ f false c) → (f true d ≡ f true c) × (f false d ≡ f false c)

-- d is the first point from 1 to n at which f holds strongly, or 0 if there is none
pub record DateOf (n : ℕ) (f : Reading) (d : ℕ) : Type 0 where
  pub within : d ≤ n
  pub holds : 0 < d → f false d ≡ true
  pub first : (c : ℕ) → 0 < c → c < d → f false c ≡ false
  pub never : d ≡ 0 → (c : ℕ) → 0 < c → c ≤ n → f false c ≡ false
