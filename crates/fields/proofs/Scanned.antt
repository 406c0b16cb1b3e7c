use Rattle.std.proofs.Common.{◌≡◌, ℕ, zero, suc, ◌+◌, ◌<◌, ◌≤◌, false, List, [], ◌∷◌, length, get_or, take, drop, position, ◌==◌, Some, None, arith}
use Rattle.std.specs.List.{position_or_len}
use Rattle.std.proofs.ByRecursion.{All-from_get_or}
use Rattle.std.proofs.lemmas.List.{drop_more, get_or-take, length-take-le}
use Rattle.std.proofs.lemmas.List.Quantifiers.{position-Some}
use Rattle.std.proofs.lemmas.List.Sums.{fails_before_first}
use Rattle.std.proofs.lemmas.Grind.{common_steps}
use Rattle.fields.specs.Lines.{Free}

-- the place of the first byte c
pub record FirstPlace (c : ℕ) (text : List ℕ) (n : ℕ) : Type 0 where
  pub within : n < length text
  pub first : Free c (take n text)
  pub here : drop n text ≡ c ∷ drop (n + 1) text

other : (b c : ℕ) → (b == c) ≡ false → b ≡ c → ⊥
other b c e h = grind arith

pub first_place : (c : ℕ) (text : List ℕ) (n : ℕ) → position (λ b. b == c) text ≡ Some n → FirstPlace c text n
first_place c text n e =
    let p = position-Some (λ b. b == c) text n 0 e in
    let l : length (take n text) ≡ n = length-take-le n text (omega (arith, p.0)) in
    let h : get_or text n 0 ≡ c = grind (arith, p.1) in
    record {
      within = p.0;
      first = All-from_get_or (λ b. b ≡ c → ⊥) (take n text) 0
          (λ i k e. other (get_or text i 0) c (p.2 i (omega arith)) (grind (arith, get_or-take n text i 0)));
      here = grind (arith, drop_more text n 0 p.0);
    }

-- byte c does not occur
pub no_place : (c : ℕ) (text : List ℕ) → position (λ b. b == c) text ≡ None → Free c text
no_place c text e =
    let l : length text ≤ position_or_len (λ b. b == c) text = grind (arith, common_steps) in
    All-from_get_or (λ b. b ≡ c → ⊥) text 0
    (λ i k. other (get_or text i 0) c (fails_before_first (λ b. b == c) text i 0 (omega arith)))

pub free_at : (c : ℕ) (text : List ℕ) (k : ℕ) → Free c text → k < length text → get_or text k 0 ≡ c → ⊥
free_at c [] k f h e = absurd (omega arith)
free_at c (b ∷ bs) zero f h e = f.0 e
free_at c (b ∷ bs) (suc k) f h e = free_at c bs k f.1 (omega arith) e
