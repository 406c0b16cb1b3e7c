use Rattle.std.proofs.Common.{◌≡◌, ◌↔◌, ℕ, Bool, true, false, IsTrue, MatchOption, Option, List, [], ◌∷◌, ◌++◌, length, decimal, refl, ap, ◌∙◌, arith}
use Rattle.std.specs.Bool.{then_some}
use Rattle.std.specs.List.{AllByRecursion as All}
use Rattle.std.proofs.lemmas.List.{append_cancel_left}
use Rattle.words.specs.Words.{word}
use Rattle.words.specs.declared.Operator.{Operator}
use Rattle.fields.specs.Lines.{Small}
use Rattle.fields.specs.Fields.{Stop, Solid, Took, NoNumber, NoOperator}
use Rattle.fields.proofs.Ends.{one_parting}
use Rattle.fields.proofs.Parted.{step}

-- keys, each with the text under it
abbrev pub shown : List (List ℕ) → List (List ℕ) → List ℕ
shown [] ts = []
shown (k ∷ ks) [] = []
shown (k ∷ ks) (t ∷ ts) = k ++ (t ++ shown ks ts)

abbrev pub Spaced : List ℕ → Type 0
Spaced [] = ⊥
Spaced (b ∷ bs) = b ≡ 32

-- each key but the first begins with a space
abbrev pub Led : List (List ℕ) → Type 0
Led [] = Unit {0}
Led (k ∷ ks) = All Spaced ks

stop_front : (k u : List ℕ) → Spaced k → Stop (k ++ u)
stop_front [] u s = absurd s
stop_front (b ∷ k) u s = s

stop_shown : (ks ts : List (List ℕ)) → All Spaced ks → Stop (shown ks ts)
stop_shown [] ts l = tt
stop_shown (k ∷ ks) [] l = tt
stop_shown (k ∷ ks) (t ∷ ts) l = stop_front k (t ++ shown ks ts) l.0

led : (ks : List (List ℕ)) → All Spaced ks → Led ks
led [] l = tt
led (k ∷ ks) l = l.1

-- the fields read one after another, to the line's end
pub data Whole : List ℕ → List (List ℕ) → List (List ℕ) → Type 0 where
  done : {before : List ℕ} → before ≡ [] → Whole before [] []
  next : {before after k t : List ℕ} {ks ts : List (List ℕ)} → Took before k t after → Whole after ks ts → Whole before (k ∷ ks) (t ∷ ts)

pub whole : {before : List ℕ} {ks ts : List (List ℕ)} → Whole before ks ts → before ≡ shown ks ts
whole (done h) = h
whole (next {k = k} {t = t} h w) = h.shows ∙ ap (λ z. k ++ (t ++ z)) (whole w)

-- the fields read up to one that does not stand there, so that the line is no showing of these texts
pub data Broken : List ℕ → List (List ℕ) → List (List ℕ) → Type 0 where
  over : {before : List ℕ} → (before ≡ [] → ⊥) → Broken before [] []
  here : {before k t : List ℕ} {ks ts : List (List ℕ)} → (Stop (shown ks ts) → before ≡ k ++ (t ++ shown ks ts) → ⊥) → Broken before (k ∷ ks) (t ∷ ts)
  later : {before after k t t' : List ℕ} {ks ts : List (List ℕ)} → Took before k t' after → Broken after ks ts → Broken before (k ∷ ks) (t ∷ ts)

pub broken : {before : List ℕ} {ks ts : List (List ℕ)} → Broken before ks ts → Led ks → All Solid ts → before ≡ shown ks ts → ⊥
broken (over h) l s e = h e
broken (here {ks = ks} {ts = ts} f) l s e = f (stop_shown ks ts l) e
broken {before} (later {after = a} {k = k} {t = t} {t' = t'} {ks = ks} {ts = ts} h b) l s e =
    broken b (led ks l) s.1 (step before k t' a t (shown ks ts) h s.0 (stop_shown ks ts l) e).1

-- a line shows one list of texts only
pub shown_unique : (ks ts us : List (List ℕ)) → length ts ≡ length ks → length us ≡ length ks → Led ks → All Solid ts → All Solid us → shown ks ts ≡ shown ks us → ts ≡ us
shown_unique [] [] [] m n l p q e = refl
shown_unique [] (t ∷ ts) us m n l p q e = absurd (omega arith)
shown_unique [] [] (u ∷ us) m n l p q e = absurd (omega arith)
shown_unique (k ∷ ks) [] us m n l p q e = absurd (omega arith)
shown_unique (k ∷ ks) (t ∷ ts) [] m n l p q e = absurd (omega arith)
shown_unique (k ∷ ks) (t ∷ ts) (u ∷ us) m n l p q e =
    let d = one_parting 32 t u (shown ks ts) (shown ks us) p.0 q.0 (stop_shown ks ts l) (stop_shown ks us l) (append_cancel_left k (t ++ shown ks ts) (u ++ shown ks us) e) in
    let i = shown_unique ks ts us (omega arith) (omega arith) (led ks l) p.1 q.1 d.1 in
    cc (d.0, i)

pub missing : {before k : List ℕ} {n : ℕ} {ks ts : List (List ℕ)} → NoNumber before k → Small n → Broken before (k ∷ ks) (decimal n ∷ ts)
missing {n = n} {ks = ks} {ts = ts} x h = here (λ s. x n (shown ks ts) h s)

pub missing_word : {before k : List ℕ} {ks ts : List (List ℕ)} → NoOperator before k → (o : Operator) → Broken before (k ∷ ks) (word o ∷ ts)
missing_word {ks = ks} {ts = ts} x o = here (λ s. x o (shown ks ts) s)

-- what a line gives whose fields were read, by whether it is at its end
pub at_end : {T N : Type 0} (S : T → Type 0) {rest : List ℕ} (b : Bool) (x : T) (o : Option T)
    → IsTrue b ↔ (rest ≡ []) → o ≡ then_some b x → ((rest ≡ [] → ⊥) → N) → (rest ≡ [] → S x) → MatchOption o N S
at_end S true x o e is n s = rw is (s (e.0 refl))
at_end S false x o e is n s = rw is (n (λ h. let b = e.1 h in cc b))
