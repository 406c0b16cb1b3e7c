-- The k-th of the notices of a point, found rule by rule and state by state. Assumes nothing.
use Rattle.std.proofs.Common.{◌≡◌, ℕ, suc, ◌+◌, ◌-◌, ◌≤◌, List, ◌++◌, Option, sym, ap, ◌∙◌, arith}
use Rattle.std.specs.List.{slice_get}
use Rattle.std.proofs.lemmas.List.{append_assoc}
use Rattle.logic.specs.declared.types.Rule.{Rule}
use Rattle.expectations.specs.declared.types.Notice.{Notice}
use Rattle.expectations.specs.Expectations.{Labels, of_state, from_state}

module _ (lab : Labels) (c : ℕ) where
  state_step : (r : ℕ) (rule : Rule) (s : ℕ) → s ≤ c → from_state lab c r rule (c + 1 - s) s ≡ of_state lab c r rule s ++ from_state lab c r rule (c + 1 - (s + 1)) (s + 1)
  state_step r rule s h =
      let e : c + 1 - s ≡ suc (c + 1 - (s + 1)) = omega arith in
      let f : s + 1 ≡ suc s = omega arith in
      ap (λ m. from_state lab c r rule m s) e ∙ ap (λ z. of_state lab c r rule s ++ from_state lab c r rule (c + 1 - (s + 1)) z) (sym f)

  -- a state's notices come after those of the states before
  pub state_begins : (r : ℕ) (rule : Rule) (s : ℕ) (here rest : List Notice) (more : ℕ) (A : Option Notice) → s ≤ c → here ≡ of_state lab c r rule s
      → slice_get (from_state lab c r rule (c + 1 - s) s ++ rest) more ≡ A
      → slice_get (here ++ (from_state lab c r rule (c + 1 - (s + 1)) (s + 1) ++ rest)) more ≡ A
  state_begins r rule s here rest more A h e inv =
      let later = from_state lab c r rule (c + 1 - (s + 1)) (s + 1) in
      ap (λ z. slice_get (z ++ (later ++ rest)) more) e
      ∙ ap (λ z. slice_get z more) (sym (append_assoc (of_state lab c r rule s) later rest))
      ∙ ap (λ z. slice_get (z ++ rest) more) (sym (state_step r rule s h)) ∙ inv
