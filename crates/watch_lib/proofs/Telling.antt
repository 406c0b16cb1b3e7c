-- The notices of a point, state by state and rule by rule. Assumes nothing.
use Rattle.std.proofs.Common.{◌≡◌, ℕ, zero, suc, ◌+◌, ◌-◌, ◌<◌, ◌≤◌, List, [], ◌∷◌, ◌++◌, length, get_or, take, sym, ap, ◌∙◌, append_assoc, add-one, arith}
use Rattle.std.proofs.lemmas.List.{append-nil}
use Rattle.logic.specs.declared.types.Rule.{Rule}
use Rattle.logic.specs.Tables.{no_rule}
use Rattle.expectations.specs.Expectations.{Labels, of_state, from_state, from_rule}

module _ (labels : Labels) (c : ℕ) where
  state_after : (k : ℕ) (r : Rule) (m s t : ℕ) → t ≡ s + m → from_state labels c k r (suc m) s ≡ from_state labels c k r m s ++ of_state labels c k r t
  state_after k r zero s t e =
      let same : t ≡ s = omega arith in
      append-nil (of_state labels c k r s) ∙ ap (of_state labels c k r) (sym same)
  state_after k r (suc m) s t e =
      let first = of_state labels c k r s in
      ap (λ l. first ++ l) (state_after k r m (suc s) t (omega arith)) ∙ sym (append_assoc first (from_state labels c k r m (suc s)) (of_state labels c k r t))

  -- a state more at the end
  pub state_more : (k : ℕ) (r : Rule) (s : ℕ) → 1 ≤ s → from_state labels c k r (s + 1 - 1) 1 ≡ from_state labels c k r (s - 1) 1 ++ of_state labels c k r s
  state_more k r s h =
      let e : s + 1 - 1 ≡ suc (s - 1) = omega arith in
      ap (λ m. from_state labels c k r m 1) e ∙ state_after k r (s - 1) 1 s (omega arith)

  rule_after : (k j q : ℕ) (rs : List Rule) → j < length rs → q ≡ k + j
      → from_rule labels c k (take (suc j) rs) ≡ from_rule labels c k (take j rs) ++ from_state labels c q (get_or rs j no_rule) c 1
  rule_after k j q [] h e = absurd (omega arith)
  rule_after k zero q (r ∷ rs) h e =
      let same : q ≡ k = omega arith in
      append-nil (from_state labels c k r c 1) ∙ ap (λ n. from_state labels c n r c 1) (sym same)
  rule_after k (suc j) q (r ∷ rs) h e =
      let first = from_state labels c k r c 1 in
      ap (λ l. first ++ l) (rule_after (suc k) j q rs (omega arith) (omega arith))
      ∙ sym (append_assoc first (from_rule labels c (suc k) (take j rs)) (from_state labels c q (get_or rs j no_rule) c 1))

  -- a rule more at the end
  pub rule_more : (j : ℕ) (rs : List Rule) → j < length rs
      → from_rule labels c 0 (take (j + 1) rs) ≡ from_rule labels c 0 (take j rs) ++ from_state labels c j (get_or rs j no_rule) c 1
  rule_more j rs h = ap (λ n. from_rule labels c 0 (take n rs)) (add-one j) ∙ rule_after 0 j j rs h (omega arith)
