-- What a dated number says of a truncation point, and how that goes with what is kept.
use Rattle.std.proofs.Common.{◌≡◌, ℕ, suc, ◌<◌, ◌≤◌, Bool, true, false, cond, not, T, ◌⊎◌, ◌↔◌, ℤ, pos, ◌+ℤ◌, neg_ℤ, ◌≤ℤ◌, ◌<ℤ◌, Decides, sym, refl, subst, inl, inr, arith}
use mathlib.Core.Logic.Iff
use mathlib.Core.Logic.{⊎_map}
use lib.Signed.{le_z, lt_z_yes, le_z_yes}
use Rattle.std.specs.Int.{int_max, int_min}
use Rattle.std.proofs.lemmas.Bool.{cases_lt, false≢true}
use Rattle.std.proofs.lemmas.Int.{ints, clamps, by_lt_z}
use Rattle.logic.specs.Logic.{Kept}
use Rattle.labels.specs.Dated.{dated}
use Rattle.labels.proofs.Dates.{lt_true}
use Rattle.dating.specs.Dated.{true_from, false_from, seen}
use Rattle.dating.specs.Labels.{at_once}

-- at point c the number z is not false (weakly), or it is true (strongly)
abbrev pub Says : Bool → ℕ → ℤ → Type 0
Says true c z = false_from c <ℤ z
Says false c z = true_from c ≤ℤ z

le_true : (a b : ℤ) → a ≤ℤ b → le_z a b ≡ true
le_true a b h = grind (arith, ints)

pub dated_says : (r : Bool) (c : ℕ) (z : ℤ) → (dated z r c ≡ true) ↔ Says r c z
unfolding true_from false_from
dated_says true c z = (
  λ h. let k : pos c <ℤ (z +ℤ pos 257) = lt_z_yes (subst T (sym h) tt) in omega (arith, ints),
  λ h. lt_true (pos c) (z +ℤ pos 257) (omega (arith, ints)),
)
dated_says false c z = (
  λ h. let k : pos 257 ≤ℤ (z +ℤ pos c) = le_z_yes (subst T (sym h) tt) in omega (arith, ints),
  λ h. le_true (pos 257) (z +ℤ pos c) (omega (arith, ints)),
)

pub says_min : (r : Bool) (c : ℕ) (x y : ℤ) → Says r c (int_min x y) ↔ (Says r c x × Says r c y)
says_min true c x y = (λ h. (omega (arith, ints, clamps), omega (arith, ints, clamps)), λ h. omega (arith, ints, clamps))
says_min false c x y = (λ h. (omega (arith, ints, clamps), omega (arith, ints, clamps)), λ h. omega (arith, ints, clamps))

pub says_max : (r : Bool) (c : ℕ) (x y : ℤ) → Says r c (int_max x y) ↔ (Says r c x ⊎ Says r c y)
says_max true c x y = (λ h. by_lt_z (false_from c) x (λ k. inl k) (λ k. inr (omega (arith, ints, clamps))), λ h. omega (arith, ints, clamps))
says_max false c x y = (λ h. by_lt_z x (true_from c) (λ k. inr (omega (arith, ints, clamps))) (λ k. inl k), λ h. omega (arith, ints, clamps))

pub says_neg : (r : Bool) (c : ℕ) (x : ℤ) → Says r c (neg_ℤ x) ↔ (Says (not r) c x → ⊥)
unfolding true_from false_from
says_neg true c x = (λ h k. omega (arith, ints), λ h. by_lt_z (false_from c) (neg_ℤ x) (λ k. k) (λ k. absurd (h (omega (arith, ints)))))
says_neg false c x = (λ h k. omega (arith, ints), λ h. by_lt_z (neg_ℤ x) (true_from c) (λ k. absurd (h (omega (arith, ints)))) (λ k. k))

pub says_true : (r : Bool) (c i : ℕ) → c ≤ 256 → i ≤ 256 → Says r c (true_from i) ↔ Kept r c i (Unit {0})
unfolding true_from false_from
says_true true c i p q = (λ h w. tt, λ h. omega (arith, ints))
says_true false c i p q = (λ h. (omega (arith, ints), tt), λ h. omega (arith, ints))

pub says_false : (r : Bool) (c i : ℕ) → c ≤ 256 → i ≤ 256 → Says r c (false_from i) ↔ Kept r c i ⊥
unfolding true_from false_from
says_false true c i p q = (λ h w. omega (arith, ints), λ h. elim (cases_lt c i) [ inl k ↦ omega (arith, ints) | inr k ↦ absurd (h k) ])
says_false false c i p q = (λ h. omega (arith, ints), λ h. absurd h.1)

-- 0 holds weakly and not strongly
pub says_unknown : (r : Bool) (c : ℕ) → c ≤ 256 → Decides r (Says r c (pos 0))
unfolding true_from false_from
says_unknown true c p = (λ _. omega (arith, ints), λ _. refl)
says_unknown false c p = (λ h. absurd (false≢true h), λ h. absurd (omega (arith, ints)))

pub says_seen : (r : Bool) (c i : ℕ) (z : ℤ) → c ≤ 256 → i ≤ 256 → Says r c (seen i z) ↔ Kept r c i (Says r c z)
unfolding true_from false_from seen
says_seen true c i z p q = (
  λ h w. omega (arith, ints, clamps),
  λ h. elim (cases_lt c i) [ inl k ↦ omega (arith, ints, clamps) | inr k ↦ let y = h k in omega (arith, ints, clamps) ],
)
says_seen false c i z p q = (λ h. (omega (arith, ints, clamps), omega (arith, ints, clamps)), λ h. omega (arith, ints, clamps))

-- ── What is kept ──
pub kept_iff : (r : Bool) (c i : ℕ) {X Y : Type 0} → X ↔ Y → Kept r c i X ↔ Kept r c i Y
kept_iff true c i e = (λ h w. e.0 (h w), λ h w. e.1 (h w))
kept_iff false c i e = (λ h. (h.0, e.0 h.1), λ h. (h.0, e.1 h.1))

-- X holds weakly past the truncation point, and strongly only up to it
abbrev pub Settled : Bool → (c i : ℕ) → Type 0 → Type 0
Settled true c i X = c < i → X
Settled false c i X = X → i ≤ c

pub kept : (r : Bool) (c i : ℕ) (X : Type 0) → Settled r c i X → X ↔ Kept r c i X
kept true c i X e = (λ h w. h, λ h. elim (cases_lt c i) [ inl k ↦ e k | inr k ↦ h k ])
kept false c i X e = (λ h. (e h, h), λ h. h.1)

pub kept_or : (r : Bool) (c i : ℕ) (X Y : Type 0) → (Kept r c i X ⊎ Kept r c i Y) ↔ Kept r c i (X ⊎ Y)
kept_or true c i X Y = (
  λ h w. ⊎_map (λ k. k w) (λ k. k w) h,
  λ h. elim (cases_lt c i) [ inl far ↦ inl (λ w. absurd (omega arith)) | inr w ↦ ⊎_map (λ x w'. x) (λ x w'. x) (h w) ],
)
kept_or false c i X Y = (
  λ h. elim h [ inl k ↦ (k.0, inl k.1) | inr k ↦ (k.0, inr k.1) ],
  λ h. ⊎_map (λ x. (h.0, x)) (λ x. (h.0, x)) h.1,
)

pub settled_before : (r : Bool) (c i : ℕ) (X : Type 0) → Settled r c (suc i) X → Settled r c i X
settled_before true c i X h = λ w. h (omega arith)
settled_before false c i X h = λ x. let w = h x in omega arith

pub settled_not : (r : Bool) (c i : ℕ) (X : Type 0) → Settled (not r) c i X → Settled r c i (X → ⊥)
settled_not true c i X h = λ far x. let w = h x in omega arith
settled_not false c i X h = λ k. elim (cases_lt c i) [ inl far ↦ absurd (k (h far)) | inr w ↦ w ]

pub settled_and : (r : Bool) (c i : ℕ) (X Y : Type 0) → Settled r c i X → Settled r c i Y → Settled r c i (X × Y)
settled_and true c i X Y h k = λ far. (h far, k far)
settled_and false c i X Y h k = λ x. h x.0

pub settled_or : (r : Bool) (c i : ℕ) (X Y : Type 0) → Settled r c i X → Settled r c i Y → Settled r c i (X ⊎ Y)
settled_or true c i X Y h k = λ far. inl (h far)
settled_or false c i X Y h k = λ x. elim x [ inl y ↦ h y | inr y ↦ k y ]

-- ── A number that is false unless a test passes ──
pub says_when : (r : Bool) (c i : ℕ) (b : Bool) (z : ℤ) (P X : Type 0) → c ≤ 256 → i ≤ 256 → (b ≡ true) ↔ P → (P → Says r c z ↔ Kept r c i X) →
    Says r c (cond b z (false_from i)) ↔ Kept r c i (P × X)
says_when r c i true z P X p q e h = Iff.trans (h (e.0 refl)) (kept_iff r c i (λ x. (e.0 refl, x), λ y. y.1))
says_when r c i false z P X p q e h = Iff.trans (says_false r c i p q) (kept_iff r c i (λ x. absurd x, λ y. false≢true (e.1 y.0)))

pub says_test : (r : Bool) (c i : ℕ) (b : Bool) (P : Type 0) → c ≤ 256 → i ≤ 256 → (b ≡ true) ↔ P → Says r c (at_once i b) ↔ Kept r c i P
says_test r c i b P p q e = Iff.trans (says_when r c i b (true_from i) P (Unit {0}) p q e (λ x. says_true r c i p q)) (kept_iff r c i (λ y. y.0, λ x. (x, tt)))

pub sum_iff : {A B C D : Type 0} → A ↔ C → B ↔ D → (A ⊎ B) ↔ (C ⊎ D)
sum_iff p q = (⊎_map p.0 q.0, ⊎_map p.1 q.1)
