-- The formulas, and what it means that one holds: on an endless trace, and at a truncation point (on the shop floor: a cut),
-- where only the states up to that point are kept.
use Rattle.std.specs.Prelude.{◌≡◌, ℕ, suc, ◌-◌, ◌/◌, ◌%◌, ◌^◌, ◌<◌, ◌≤◌, Bool, true, false, not, ◌||◌, ◌⊎◌}
use Rattle.logic.specs.declared.types.State.{State}
use Rattle.logic.specs.States.{Trace}

-- a formula as a tree
pub data Tree : Type 0 where
  true' : Tree
  signal : ℕ → Tree
  nominal : ℕ → Tree
  not' : Tree → Tree
  and' : Tree → Tree → Tree
  or' : Tree → Tree → Tree
  next : Tree → Tree
  previous : Tree → Tree
  until : Tree → Tree → Tree
  since : Tree → Tree → Tree
  at' : ℕ → Tree → Tree
  variable : Tree
  reference : ℕ → Tree
  bind : Tree → Tree
  some' : ℕ → Tree → Tree

-- ── What a state shows ──

-- signal b is on
abbrev pub Shows : State → ℕ → Type 0
Shows q b = q.signals / 2 ^ b % 2 ≡ 1

-- the state carries nominal a
abbrev pub Carries : State → ℕ → Type 0
Carries q a = (0 < a) × (q.nominal ≡ a)

-- the state has a reference of kind a to state t
abbrev pub Refers : State → (a t : ℕ) → Type 0
Refers q a t = (0 < a) × (((q.first.kind ≡ a) × (q.first.target ≡ t)) ⊎ ((q.second.kind ≡ a) × (q.second.target ≡ t)))

-- ── On an endless trace: the formula holds at state i, with the variable bound to state v ──
abbrev pub Holds : Trace → (v i : ℕ) → Tree → Type 0
Holds s v i true' = Unit {0}
Holds s v i (signal b) = Shows (s i) b
Holds s v i (nominal a) = Carries (s i) a
Holds s v i (not' f) = Holds s v i f → ⊥
Holds s v i (and' f g) = Holds s v i f × Holds s v i g
Holds s v i (or' f g) = Holds s v i f ⊎ Holds s v i g
Holds s v i (next f) = Holds s v (suc i) f
Holds s v i (previous f) = (1 < i) × Holds s v (i - 1) f
Holds s v i (until f g) = (k : ℕ) × (i ≤ k) × Holds s v k g × ((j : ℕ) → i ≤ j → j < k → Holds s v j f)
Holds s v i (since f g) = (k : ℕ) × (1 ≤ k) × (k ≤ i) × Holds s v k g × ((j : ℕ) → k < j → j ≤ i → Holds s v j f)
Holds s v i (at' a f) = (t : ℕ) × (1 ≤ t) × Carries (s t) a × Holds s v t f
Holds s v i variable = i ≡ v
Holds s v i (reference a) = Refers (s i) a v
Holds s v i (bind f) = Holds s i i f
Holds s v i (some' a f) = (t : ℕ) × Refers (s i) a t × Holds s t i f

-- ── At truncation point c: a reading is weak or strong ──
abbrev pub weak : Bool
weak = true

abbrev pub strong : Bool
strong = false

-- past the truncation point every formula holds weakly (true) and none strongly (false)
abbrev pub Kept : Bool → (c i : ℕ) → Type 0 → Type 0
Kept true c i X = i ≤ c → X
Kept false c i X = (i ≤ c) × X

-- X at the kept state that carries nominal a
abbrev pub Named : Trace → (c a : ℕ) → (ℕ → Type 0) → Type 0
Named s c a X = (t : ℕ) × (1 ≤ t) × (t ≤ c) × Carries (s t) a × X t

-- no kept state carries nominal a
abbrev pub Nameless : Trace → (c a : ℕ) → Type 0
Nameless s c a = (t : ℕ) → 1 ≤ t → t ≤ c → Carries (s t) a → ⊥

-- `at`: while no kept state carries the nominal, it holds weakly (true) and not strongly (false)
abbrev pub AtNominal : Bool → Trace → (c a : ℕ) → (ℕ → Type 0) → Type 0
AtNominal true s c a X = Nameless s c a ⊎ Named s c a X
AtNominal false s c a X = Named s c a X

-- The reading r of a formula at state i and truncation point c. `not` takes the other reading of its part, and the state at
-- which an `until` is met may be the first one past the point.
abbrev pub Reads : Bool → Trace → (c v i : ℕ) → Tree → Type 0
Reads r s c v i true' = Kept r c i (Unit {0})
Reads r s c v i (signal b) = Kept r c i (Shows (s i) b)
Reads r s c v i (nominal a) = Kept r c i (Carries (s i) a)
Reads r s c v i (not' f) = Kept r c i (Reads (not r) s c v i f → ⊥)
Reads r s c v i (and' f g) = Kept r c i (Reads r s c v i f × Reads r s c v i g)
Reads r s c v i (or' f g) = Kept r c i (Reads r s c v i f ⊎ Reads r s c v i g)
Reads r s c v i (next f) = Kept r c i (Reads r s c v (suc i) f)
Reads r s c v i (previous f) = Kept r c i ((1 < i) × Reads r s c v (i - 1) f)
Reads r s c v i (until f g) =
    Kept r c i ((k : ℕ) × (i ≤ k) × (k ≤ suc c) × Reads r s c v k g × ((j : ℕ) → i ≤ j → j < k → Reads r s c v j f))
Reads r s c v i (since f g) =
    Kept r c i ((k : ℕ) × (1 ≤ k) × (k ≤ i) × Reads r s c v k g × ((j : ℕ) → k < j → j ≤ i → Reads r s c v j f))
Reads r s c v i (at' a f) = Kept r c i (AtNominal r s c a (λ t. Reads r s c v t f))
Reads r s c v i variable = Kept r c i (i ≡ v)
Reads r s c v i (reference a) = Kept r c i (Refers (s i) a v)
Reads r s c v i (bind f) = Kept r c i (Reads r s c i i f)
Reads r s c v i (some' a f) = Kept r c i ((t : ℕ) × Refers (s i) a t × Reads r s c t i f)

-- whether a formula is loose: it speaks of a variable that nothing in it binds
abbrev pub is_loose : Tree → Bool
is_loose true' = false
is_loose (signal b) = false
is_loose (nominal a) = false
is_loose (not' f) = is_loose f
is_loose (and' f g) = is_loose f || is_loose g
is_loose (or' f g) = is_loose f || is_loose g
is_loose (next f) = is_loose f
is_loose (previous f) = is_loose f
is_loose (until f g) = is_loose f || is_loose g
is_loose (since f g) = is_loose f || is_loose g
is_loose (at' a f) = is_loose f
is_loose variable = true
is_loose (reference a) = true
is_loose (bind f) = false
is_loose (some' a f) = false
