-- What holds strongly holds weakly; verdicts stay, and they are right of endless traces.
use Rattle.std.proofs.Common.{◌≡◌, ℕ, suc, ◌-◌, ◌≤◌, sym, refl, subst, inl, inr, arith}
use mathlib.Core.Logic.{⊎_map}
use Rattle.std.proofs.lemmas.Bool.{cases_lt}
use Rattle.logic.specs.declared.types.State.{State}
use Rattle.logic.specs.States.{Trace, Agree}
use Rattle.logic.specs.Lawful.{Lawful}
use Rattle.logic.specs.Logic.{Tree, true', signal, nominal, not', and', or', next, previous, until, since, at', variable, reference, bind, some', Shows, Carries, Refers, Holds, Reads, weak, strong}
use Rattle.logic.specs.Laws.{StrongIsWeak, VerdictsStay, VerdictsAreSound}
use Rattle.logic.proofs.Keeps.{past}
use Rattle.logic.proofs.Uniques.{UniqueTo, unique, unique_endless}

pub strong_is_weak_lem : StrongIsWeak
strong_is_weak_lem s c v i true' h = λ w. tt
strong_is_weak_lem s c v i (signal b) h = λ w. h.1
strong_is_weak_lem s c v i (nominal a) h = λ w. h.1
strong_is_weak_lem s c v i (not' f) h = λ w. λ p. h.1 (strong_is_weak_lem s c v i f p)
strong_is_weak_lem s c v i (and' f g) h = λ w. (strong_is_weak_lem s c v i f h.1.0, strong_is_weak_lem s c v i g h.1.1)
strong_is_weak_lem s c v i (or' f g) h = λ w. ⊎_map (strong_is_weak_lem s c v i f) (strong_is_weak_lem s c v i g) h.1
strong_is_weak_lem s c v i (next f) h = λ w. strong_is_weak_lem s c v (suc i) f h.1
strong_is_weak_lem s c v i (previous f) h = λ w. (h.1.0, strong_is_weak_lem s c v (i - 1) f h.1.1)
strong_is_weak_lem s c v i (until f g) h = λ w.
    let x = h.1 in
    (x.0, x.1, x.2, strong_is_weak_lem s c v x.0 g x.3, λ j p q. strong_is_weak_lem s c v j f (x.4 j p q))
strong_is_weak_lem s c v i (since f g) h = λ w.
    let x = h.1 in
    (x.0, x.1, x.2, strong_is_weak_lem s c v x.0 g x.3, λ j p q. strong_is_weak_lem s c v j f (x.4 j p q))
strong_is_weak_lem s c v i (at' a f) h = λ w.
    let x = h.1 in
    inr (x.0, x.1, x.2, x.3, strong_is_weak_lem s c v x.0 f x.4)
strong_is_weak_lem s c v i variable h = λ w. h.1
strong_is_weak_lem s c v i (reference a) h = λ w. h.1
strong_is_weak_lem s c v i (bind f) h = λ w. strong_is_weak_lem s c i i f h.1
strong_is_weak_lem s c v i (some' a f) h = λ w.
    let x = h.1 in
    (x.0, x.1, strong_is_weak_lem s c x.0 i f x.2)

-- ── A later truncation point ──
module _ (s u : Trace) (c d : ℕ) (le : c ≤ d) (same : Agree c s u) (one : UniqueTo d u) where
  abbrev Later : (v i : ℕ) → Tree → Type 0
  Later v i f = (Reads strong s c v i f → Reads strong u d v i f) × (Reads weak u d v i f → Reads weak s c v i f)

  pub later : (v i : ℕ) (f : Tree) → 1 ≤ i → Later v i f
  later v i true' p = (λ h. (omega arith, tt), λ h w. tt)
  later v i (signal b) p = (
    λ h. (omega arith, subst (λ (q : State). Shows q b) (same i p h.0) h.1),
    λ h w. subst (λ (q : State). Shows q b) (sym (same i p w)) (h (omega arith)),
  )
  later v i (nominal a) p = (
    λ h. (omega arith, subst (λ (q : State). Carries q a) (same i p h.0) h.1),
    λ h w. subst (λ (q : State). Carries q a) (sym (same i p w)) (h (omega arith)),
  )
  later v i (not' f) p =
      let r = later v i f p in
      (λ h. (omega arith, λ x. h.1 (r.1 x)), λ h w x. h (omega arith) (r.0 x))
  later v i (and' f g) p =
      let r = later v i f p in
      let t = later v i g p in
      (λ h. (omega arith, (r.0 h.1.0, t.0 h.1.1)), λ h w. let x = h (omega arith) in (r.1 x.0, t.1 x.1))
  later v i (or' f g) p =
      let r = later v i f p in
      let t = later v i g p in
      (λ h. (omega arith, ⊎_map r.0 t.0 h.1), λ h w. ⊎_map r.1 t.1 (h (omega arith)))
  later v i (next f) p =
      let r = later v (suc i) f (omega arith) in
      (λ h. (omega arith, r.0 h.1), λ h w. r.1 (h (omega arith)))
  later v i (previous f) p = (
    λ h. (omega arith, (h.1.0, (later v (i - 1) f (omega (arith, h.1.0))).0 h.1.1)),
    λ h w. let x = h (omega arith) in (x.0, (later v (i - 1) f (omega (arith, x.0))).1 x.1),
  )
  later v i (until f g) p = (
    λ h. let x = h.1 in (
      omega arith,
      (x.0, x.1, omega (arith, x.2), (later v x.0 g (omega (arith, x.1))).0 x.3, λ j m n. (later v j f (omega arith)).0 (x.4 j m n)),
    ),
    λ h w. let x = h (omega arith) in
        elim (cases_lt (suc c) x.0) [
          | inl far ↦ (suc c, omega arith, omega arith, (past weak s c v (suc c) g (omega arith)).0 refl, λ j m n. (later v j f (omega arith)).1 (x.4 j m (omega arith)))
          | inr near ↦ (x.0, x.1, near, (later v x.0 g (omega (arith, x.1))).1 x.3, λ j m n. (later v j f (omega arith)).1 (x.4 j m n))
        ],
  )
  later v i (since f g) p = (
    λ h. let x = h.1 in (
      omega arith,
      (x.0, x.1, x.2, (later v x.0 g x.1).0 x.3, λ j m n. (later v j f (omega (arith, x.1))).0 (x.4 j m n)),
    ),
    λ h w. let x = h (omega arith) in
        (x.0, x.1, x.2, (later v x.0 g x.1).1 x.3, λ j m n. (later v j f (omega (arith, x.1))).1 (x.4 j m n)),
  )
  later v i (at' a f) p = (
    λ h. let x = h.1 in (
      omega arith,
      (x.0, x.1, omega (arith, x.2), subst (λ (q : State). Carries q a) (same x.0 x.1 x.2) x.3, (later v x.0 f x.1).0 x.4),
    ),
    λ h w.
        elim (h (omega arith)) [
          | inl none ↦ inl (λ t m n y. none t m (omega arith) (subst (λ (q : State). Carries q a) (same t m n) y))
          | inr x ↦
              elim (cases_lt c x.0) [
                | inl far ↦ inl (λ t m n y. let e : t ≡ x.0 = one t x.0 a m (omega arith) x.1 x.2 (subst (λ (q : State). Carries q a) (same t m n) y) x.3 in omega arith)
                | inr near ↦ inr (x.0, x.1, near, subst (λ (q : State). Carries q a) (sym (same x.0 x.1 near)) x.3, (later v x.0 f x.1).1 x.4)
              ]
        ],
  )
  later v i variable p = (λ h. (omega arith, h.1), λ h w. h (omega arith))
  later v i (reference a) p = (
    λ h. (omega arith, subst (λ (q : State). Refers q a v) (same i p h.0) h.1),
    λ h w. subst (λ (q : State). Refers q a v) (sym (same i p w)) (h (omega arith)),
  )
  later v i (bind f) p =
      let r = later i i f p in
      (λ h. (omega arith, r.0 h.1), λ h w. r.1 (h (omega arith)))
  later v i (some' a f) p = (
    λ h. let x = h.1 in (omega arith, (x.0, subst (λ (q : State). Refers q a x.0) (same i p h.0) x.1, (later x.0 i f p).0 x.2)),
    λ h w. let x = h (omega arith) in
        (x.0, subst (λ (q : State). Refers q a x.0) (sym (same i p w)) x.1, (later x.0 i f p).1 x.2),
  )

pub verdicts_stay_lem : VerdictsStay
verdicts_stay_lem s u c d v i f p le same law =
    let l = later s u c d le same (unique d u law) v i f p in
    (l.0, λ n x. n (l.1 x))

-- ── The endless trace ──
module _ (s : Trace) (c : ℕ) (law : Lawful s) where
  abbrev Sound : (v i : ℕ) → Tree → Type 0
  Sound v i f = (Reads strong s c v i f → Holds s v i f) × (Holds s v i f → Reads weak s c v i f)

  pub sound : (v i : ℕ) (f : Tree) → 1 ≤ i → Sound v i f
  sound v i true' p = (λ h. tt, λ h w. tt)
  sound v i (signal b) p = (λ h. h.1, λ h w. h)
  sound v i (nominal a) p = (λ h. h.1, λ h w. h)
  sound v i (not' f) p =
      let r = sound v i f p in
      (λ h x. h.1 (r.1 x), λ h w x. h (r.0 x))
  sound v i (and' f g) p =
      let r = sound v i f p in
      let t = sound v i g p in
      (λ h. (r.0 h.1.0, t.0 h.1.1), λ x w. (r.1 x.0, t.1 x.1))
  sound v i (or' f g) p =
      let r = sound v i f p in
      let t = sound v i g p in
      (λ h. ⊎_map r.0 t.0 h.1, λ h w. ⊎_map r.1 t.1 h)
  sound v i (next f) p =
      let r = sound v (suc i) f (omega arith) in
      (λ h. r.0 h.1, λ h w. r.1 h)
  sound v i (previous f) p = (
    λ h. (h.1.0, (sound v (i - 1) f (omega (arith, h.1.0))).0 h.1.1),
    λ x w. (x.0, (sound v (i - 1) f (omega (arith, x.0))).1 x.1),
  )
  sound v i (until f g) p = (
    λ h. let x = h.1 in
        (x.0, x.1, (sound v x.0 g (omega (arith, x.1))).0 x.3, λ j m n. (sound v j f (omega arith)).0 (x.4 j m n)),
    λ x w.
        elim (cases_lt (suc c) x.0) [
          | inl far ↦ (suc c, omega arith, omega arith, (past weak s c v (suc c) g (omega arith)).0 refl, λ j m n. (sound v j f (omega arith)).1 (x.3 j m (omega arith)))
          | inr near ↦ (x.0, x.1, near, (sound v x.0 g (omega (arith, x.1))).1 x.2, λ j m n. (sound v j f (omega arith)).1 (x.3 j m n))
        ],
  )
  sound v i (since f g) p = (
    λ h. let x = h.1 in
        (x.0, x.1, x.2, (sound v x.0 g x.1).0 x.3, λ j m n. (sound v j f (omega (arith, x.1))).0 (x.4 j m n)),
    λ x w.
        (x.0, x.1, x.2, (sound v x.0 g x.1).1 x.3, λ j m n. (sound v j f (omega (arith, x.1))).1 (x.4 j m n)),
  )
  sound v i (at' a f) p = (
    λ h. let x = h.1 in (x.0, x.1, x.3, (sound v x.0 f x.1).0 x.4),
    λ x w.
        elim (cases_lt c x.0) [
          | inl far ↦ inl (λ t m n y. let e : t ≡ x.0 = unique_endless s law t x.0 a m x.1 y x.2 in omega arith)
          | inr near ↦ inr (x.0, x.1, near, x.2, (sound v x.0 f x.1).1 x.3)
        ],
  )
  sound v i variable p = (λ h. h.1, λ h w. h)
  sound v i (reference a) p = (λ h. h.1, λ h w. h)
  sound v i (bind f) p =
      let r = sound i i f p in
      (λ h. r.0 h.1, λ h w. r.1 h)
  sound v i (some' a f) p = (
    λ h. let x = h.1 in (x.0, x.1, (sound x.0 i f p).0 x.2),
    λ x w. (x.0, x.1, (sound x.0 i f p).1 x.2),
  )

pub verdicts_are_sound_lem : VerdictsAreSound
verdicts_are_sound_lem s u c v i f p same law =
    let moved = later s u c c (omega arith) same (unique c u (λ k k1 _. law k k1)) v i f p in
    let right = sound u c law v i f p in
    (λ h. right.0 (moved.0 h), λ n h. n (moved.1 (right.1 h)))
