-- Walks by steps of which only one can be taken at a time. Assumes nothing.
use Rattle.std.proofs.Common.{◌≡◌, sym, refl, subst}

module _ {S : Type 0} (Step : S → S → Type 0) where
  pub data Walk : S → S → Type 0 where
    here : {a b : S} → a ≡ b → Walk a b
    next : {a b c : S} → Step a b → Walk b c → Walk a c

  -- one step more
  pub walk_more : {a b c : S} → Walk a b → Step b c → Walk a c
  walk_more {c = c} (here e) s = next (subst (λ z. Step z c) (sym e) s) (here refl)
  walk_more (next t w) s = next t (walk_more w s)

  -- no step can be taken
  abbrev pub Stuck : S → Type 0
  Stuck a = (b : S) → Step a b → ⊥

  -- no step leads on, so a walk ends where it begins
  stays : {p q : S} → Walk p q → Stuck p → p ≡ q
  stays (here e) x = e
  stays (next {b = b} s w) x = absurd (x b s)

  -- a walk that is as long as can be goes on from the end of any other from the same place
  pub goes_on : ((a b c : S) → Step a b → Step a c → b ≡ c) → {a p q : S} → Walk a p → Walk a q → Stuck q → Walk p q
  goes_on one {q = q} (here e) v y = subst (λ z. Walk z q) e v
  goes_on one (next {b = b} s w) (here f) y = absurd (y b (subst (λ z. Step z b) f s))
  goes_on one {a} {p} {q} (next {b = b} s w) (next {b = c} t v) y = goes_on one w (subst (λ z. Walk z q) (sym (one a b c s t)) v) y

  -- two walks from one place, each as long as can be, end at one place
  pub one_end : ((a b c : S) → Step a b → Step a c → b ≡ c) → {a p q : S} → Walk a p → Walk a q → Stuck p → Stuck q → p ≡ q
  one_end one w v x y = stays (goes_on one w v y) x
