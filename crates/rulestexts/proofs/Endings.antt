use Rattle.std.proofs.Common.{◌≡◌, ℕ, ◌-◌, ◌≤◌, List, ◌++◌, length, take, drop, sym, ap, ◌∙◌, arith, length-append, take-append-drop}
use Rattle.std.proofs.lemmas.List.{append_assoc, drop_at, take_rest}
use Rattle.rulestexts.specs.Texts.{EndsIn}

-- the rest of a text, as `&text[at..]` has it
abbrev pub rest_from : (text : List ℕ) (at : ℕ) → List ℕ
rest_from text at = take (length text - at) (drop at text)

pub ends_twice : (text middle rest : List ℕ) → EndsIn text middle → EndsIn middle rest → EndsIn text rest
ends_twice text middle rest (a, e) (b, f) = (a ++ b, e ∙ ap (λ z. a ++ z) f ∙ sym (append_assoc a b rest))

pub ends_from : (text : List ℕ) (at : ℕ) → EndsIn text (rest_from text at)
ends_from text at = (take at text, sym (take-append-drop at text) ∙ ap (λ z. take at text ++ z) (sym (take_rest text at)))

module _ (text rest : List ℕ) (h : EndsIn text rest) where
  pub ends_short : length rest ≤ length text
  ends_short = omega (arith, ap length h.1, length-append h.0 rest)

  -- what follows the bytes that are not in the rest
  pub ends_drop : drop (length text - length rest) text ≡ rest
  ends_drop =
      let n : length h.0 ≡ length text - length rest = omega (arith, ap length h.1, length-append h.0 rest) in
      ap (drop (length text - length rest)) h.1 ∙ drop_at h.0 rest (length text - length rest) n
