-- The operations on readings keep them sound and settled.
use Rattle.std.proofs.Common.{◌≡◌, ℕ, ◌<◌, ◌≤◌, Bool, true, false, ◌&&◌, ◌||◌, sym, ◌∙◌, arith}
use Rattle.std.proofs.lemmas.Bool.Decides.{nat_tests}
use Rattle.labels.specs.Readings.{Reading, Same, Sound, Settled, fixed, negated, both, either, seen}

-- what a strip's two ghost fields say, of any reading
pub record Held (n : ℕ) (f : Reading) : Type 0 where
  pub sound : Sound n f
  pub settled : Settled n f

held : (n : ℕ) (f : Reading) → Sound n f → Settled n f → Held n f
held n f a b = record { sound = a; settled = b }

-- the weak and strong readings of two labels at a point, and, primed, at a later one
and_settles : (fw fs gw gs fw' fs' gw' gs' : Bool) → (fs ≡ true → fw ≡ true) → (gs ≡ true → gw ≡ true)
    → (fw ≡ fs → (fw' ≡ fw) × (fs' ≡ fs)) → (gw ≡ gs → (gw' ≡ gw) × (gs' ≡ gs))
    → (fw && gw) ≡ (fs && gs) → ((fw' && gw') ≡ (fw && gw)) × ((fs' && gs') ≡ (fs && gs))
and_settles fw fs gw gs fw' fs' gw' gs' p q a b e = grind arith

or_settles : (fw fs gw gs fw' fs' gw' gs' : Bool) → (fs ≡ true → fw ≡ true) → (gs ≡ true → gw ≡ true)
    → (fw ≡ fs → (fw' ≡ fw) × (fs' ≡ fs)) → (gw ≡ gs → (gw' ≡ gw) × (gs' ≡ gs))
    → (fw || gw) ≡ (fs || gs) → ((fw' || gw') ≡ (fw || gw)) × ((fs' || gs') ≡ (fs || gs))
or_settles fw fs gw gs fw' fs' gw' gs' p q a b e = grind arith

-- what is held of a reading is held of an equal one
pub held_same : (n : ℕ) (h f : Reading) → Same n h f → Held n f → Held n h
held_same n h f s k =
    held n h
    (λ c p. s true c p.0 p.1 ∙ k.sound c (p.0, p.1, sym (s false c p.0 p.1) ∙ p.2))
    (λ c d p.
    let hi : c ≤ n = omega arith in
    let lo : 0 < d = omega arith in
    let w = s true c p.0 hi in
    let x = s false c p.0 hi in
    let on = k.settled c d (p.0, p.1, p.2, sym w ∙ p.3 ∙ x) in
    (s true d lo p.2 ∙ on.0 ∙ sym w, s false d lo p.2 ∙ on.1 ∙ sym x))

module _ (n : ℕ) (f g : Reading) (j : Held n f) (k : Held n g) where
  pub held_both : Held n (both f g)
  held_both =
      held n (both f g)
      (λ c p. let a = j.sound c in let b = k.sound c in grind arith)
      (λ c d p.
      let hi : c ≤ n = omega arith in
      and_settles _ _ _ _ _ _ _ _ (λ q. j.sound c (p.0, hi, q)) (λ q. k.sound c (p.0, hi, q)) (λ q. j.settled c d (p.0, p.1, p.2, q)) (λ q. k.settled c d (p.0, p.1, p.2, q)) p.3)

  pub held_either : Held n (either f g)
  held_either =
      held n (either f g)
      (λ c p. let a = j.sound c in let b = k.sound c in grind arith)
      (λ c d p.
      let hi : c ≤ n = omega arith in
      or_settles _ _ _ _ _ _ _ _ (λ q. j.sound c (p.0, hi, q)) (λ q. k.sound c (p.0, hi, q)) (λ q. j.settled c d (p.0, p.1, p.2, q)) (λ q. k.settled c d (p.0, p.1, p.2, q)) p.3)

pub held_negated : (n : ℕ) (f : Reading) → Held n f → Held n (negated f)
held_negated n f k =
    held n (negated f) (λ c p. let a = k.sound c in grind arith) (λ c d p. let b = k.settled c d in grind arith)

pub held_fixed : (n i : ℕ) (v : Bool) → Held n (fixed i v)
held_fixed n i v = held n (fixed i v) (λ c p. grind (arith, nat_tests)) (λ c d p. grind (arith, nat_tests))

pub held_seen : (n i : ℕ) (f : Reading) → Held n f → Held n (seen i f)
held_seen n i f k =
    held n (seen i f)
    (λ c p. let a = k.sound c in grind (arith, nat_tests))
    (λ c d p. let b = k.settled c d in grind (arith, nat_tests))
