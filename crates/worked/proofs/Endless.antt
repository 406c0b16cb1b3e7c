-- The examples on endless traces.
use Rattle.std.proofs.Common.{◌≡◌, ℕ, zero, suc, ◌<◌, ◌≤◌, [], ◌∷◌, refl, arith}
use Rattle.logic.specs.States.{state_at}
use Rattle.logic.specs.Logic.{Shows}
use Rattle.worked.specs.Examples.{plain}
use Rattle.worked.specs.Claims.{EndlessExamples}

-- signal 0 is on in states 1 and 2
lasts : (j : ℕ) → 1 ≤ j → j < 3 → Shows (state_at (plain 1 ∷ plain 1 ∷ plain 2 ∷ []) j) 0
lasts zero a b = absurd (omega arith)
lasts (suc zero) a b = refl
lasts (suc (suc zero)) a b = refl
lasts (suc (suc (suc k))) a b = absurd (omega arith)

pub endless_examples_lem : EndlessExamples
endless_examples_lem = record {
  never_met = λ h. let e : 0 ≡ 1 = h.2 in absurd (omega arith);
  met = (3, (omega arith), refl, lasts);
  never_named = λ h. let e : 0 ≡ 1 = h.2.1 in absurd (omega arith);
  named = (2, (omega arith), ((omega arith), refl), tt);
}
