use Rattle.std.proofs.Common.{◌≡◌, ℕ, ◌+◌, ◌<◌, min, List, [], ◌∷◌, ◌++◌, length, get_or, take, drop, position, ◌==◌, Some, None, sym, refl, ap, ◌∙◌, subst, arith, length-append, take-append-drop}
use Rattle.std.proofs.lemmas.List.{drop_more, get_or-take, get_or-drop, get_or_at, length-take-le}
use Rattle.std.proofs.lemmas.Grind.{common_steps}
use Rattle.fields.specs.Lines.{Free, FirstLine, Torn, line_limit}
use Rattle.fields.specs.Fields as fields
use Rattle.fields.proofs.Scanned.{FirstPlace, first_place, no_place, free_at}

-- a front without byte c, before a text that is empty or begins with c, is found in one way only
pub one_parting : (c : ℕ) (a b r s : List ℕ) → Free c a → Free c b → fields.Ends c r → fields.Ends c s → a ++ r ≡ b ++ s → (a ≡ b) × (r ≡ s)
one_parting c [] [] r s p q x y e = (refl, e)
one_parting c [] (b ∷ bs) r s p q x y e = absurd (q.0 (subst (fields.Ends c) e x))
one_parting c (a ∷ az) [] r s p q x y e = absurd (p.0 (subst (fields.Ends c) (sym e) y))
one_parting c (a ∷ az) (b ∷ bs) r s p q x y e =
    let h : a ≡ b = cc in
    let t : az ++ r ≡ bs ++ s = cc in
    let i = one_parting c az bs r s p.1 q.1 x y t in
    (cc i.0, i.1)

-- a text has one first line at most
pub one_line : (text a b r s : List ℕ) → FirstLine text a r → FirstLine text b s → (a ≡ b) × (r ≡ s)
one_line text a b r s p q =
    let d = one_parting 10 a b (10 ∷ r) (10 ∷ s) p.plain q.plain refl refl (sym p.shows ∙ q.shows) in
    let e : 10 ∷ r ≡ 10 ∷ s = d.1 in
    (d.0, cc e)

-- the front of a text in which its first line must end
module _ (text : List ℕ) (m : ℕ) (h : m ≡ min (length text) (line_limit + 1)) where
  pub line_by_place : (n : ℕ) → position (λ b. b == 10) (take m text) ≡ Some n → FirstLine text (take n text) (drop (length (take n text) + 1) text)
  line_by_place n e =
      let f : FirstPlace 10 (take m text) n = first_place 10 (take m text) n e in
      let w : n < m = omega (arith, f.within, length-take-le m text (omega arith)) in
      let l : length (take n text) ≡ n = length-take-le n text (omega arith) in
      let t : take n (take m text) ≡ take n text = grind (arith, common_steps) in
      let g : get_or text n 0 ≡ 10 = sym (get_or-take m text n 0 w) ∙ ap (λ z. get_or (take m text) z 0) (omega arith) ∙ sym (get_or-drop n (take m text) 0 0) ∙ ap (λ z. get_or z 0 0) f.here in
      record {
        shows = sym (take-append-drop n text) ∙ ap (λ z. take n text ++ z) (drop_more text n 0 (omega arith) ∙ ap (λ z. z ∷ drop (n + 1) text) g ∙ ap (λ z. 10 ∷ drop (z + 1) text) (sym l));
        plain = subst (Free 10) t f.first;
        short = omega arith;
      }

  pub torn_by_place : position (λ b. b == 10) (take m text) ≡ None → Torn text
  torn_by_place e line rest f =
      let n : length text ≡ length line + length (10 ∷ rest) = ap length f.shows ∙ length-append line (10 ∷ rest) in
      let w : length line < m = omega (arith, f.short) in
      let g : get_or (take m text) (length line) 0 ≡ 10 = get_or-take m text (length line) 0 w ∙ ap (λ z. get_or z (length line) 0) f.shows ∙ get_or_at line 10 rest 0 (length line) refl in
      free_at 10 (take m text) (length line) (no_place 10 (take m text) e) (omega (arith, length-take-le m text (omega arith))) g
