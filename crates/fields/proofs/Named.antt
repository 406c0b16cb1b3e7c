use Rattle.std.proofs.Common.{◌≡◌, ℕ, ◌+◌, ◌*◌, ◌≤◌, Bool, true, false, cond, eqb, List, [], ◌∷◌, get_or, codes, sym, refl, ap, ◌∙◌, arith}
use Rattle.words.specs.Words.{word}
use Rattle.words.specs.declared.Operator.{Operator}
use Rattle.words.specs.declared.Operator.TheVariants as op
use Rattle.fields.specs.Lines.{Free}
use Rattle.fields.specs.Fields.{Solid}

-- whether byte c does not occur
free : ℕ → List ℕ → Bool
free c [] = true
free c (b ∷ bs) = cond (eqb b c) false (free c bs)

free_by : (c : ℕ) (t : List ℕ) → free c t ≡ true → Free c t
unfolding free
free_by c [] e = tt
free_by c (b ∷ bs) e = (λ h. grind arith, free_by c bs (grind arith))

pub solid_word : (o : Operator) → Solid (word o)
unfolding free
solid_word op.True = free_by 32 (codes "true") refl
solid_word op.Signal = free_by 32 (codes "signal") refl
solid_word op.Nominal = free_by 32 (codes "mark") refl
solid_word op.Not = free_by 32 (codes "not") refl
solid_word op.And = free_by 32 (codes "and") refl
solid_word op.Or = free_by 32 (codes "or") refl
solid_word op.Next = free_by 32 (codes "next") refl
solid_word op.Previous = free_by 32 (codes "prev") refl
solid_word op.Until = free_by 32 (codes "until") refl
solid_word op.Since = free_by 32 (codes "since") refl
solid_word op.At = free_by 32 (codes "at") refl
solid_word op.Variable = free_by 32 (codes "var") refl
solid_word op.Reference = free_by 32 (codes "link") refl
solid_word op.Bind = free_by 32 (codes "bind") refl
solid_word op.Some = free_by 32 (codes "some") refl

pub word_letter : (o : Operator) → 97 ≤ get_or (word o) 0 0
word_letter op.True = omega arith
word_letter op.Signal = omega arith
word_letter op.Nominal = omega arith
word_letter op.Not = omega arith
word_letter op.And = omega arith
word_letter op.Or = omega arith
word_letter op.Next = omega arith
word_letter op.Previous = omega arith
word_letter op.Until = omega arith
word_letter op.Since = omega arith
word_letter op.At = omega arith
word_letter op.Variable = omega arith
word_letter op.Reference = omega arith
word_letter op.Bind = omega arith
word_letter op.Some = omega arith

-- a word as one number, from which the operator is found again
number : List ℕ → ℕ
number [] = 0
number (b ∷ bs) = b + 256 * number bs

found : ℕ → Operator
found n =
    cond (eqb n 1702195828) op.True (
    cond (eqb n 119165719898483) op.Signal (
    cond (eqb n 1802658157) op.Nominal (
    cond (eqb n 7630702) op.Not (
    cond (eqb n 6581857) op.And (
    cond (eqb n 29295) op.Or (
    cond (eqb n 1954047342) op.Next (
    cond (eqb n 1986359920) op.Previous (
    cond (eqb n 465625706101) op.Until (
    cond (eqb n 435459877235) op.Since (
    cond (eqb n 29793) op.At (
    cond (eqb n 7496054) op.Variable (
    cond (eqb n 1802398060) op.Reference (
    cond (eqb n 1684957538) op.Bind (
    op.Some))))))))))))))

found_word : (o : Operator) → found (number (word o)) ≡ o
unfolding number found
found_word op.True = refl
found_word op.Signal = refl
found_word op.Nominal = refl
found_word op.Not = refl
found_word op.And = refl
found_word op.Or = refl
found_word op.Next = refl
found_word op.Previous = refl
found_word op.Until = refl
found_word op.Since = refl
found_word op.At = refl
found_word op.Variable = refl
found_word op.Reference = refl
found_word op.Bind = refl
found_word op.Some = refl

-- no two operators have one word
pub one_word : (o p : Operator) → word o ≡ word p → o ≡ p
one_word o p e = sym (found_word o) ∙ ap (λ z. found (number z)) e ∙ found_word p
