-- All rules' tallies, added up.
use Rattle.std.specs.Prelude.{ℕ, ◌+◌, ◌≤◌, List, [], ◌∷◌}
use Rattle.logic.specs.declared.types.Rule.{Rule}
use Rattle.expectations.specs.declared.types.Tally.{Tally}
use Rattle.expectations.specs.Expectations.{Labels, no_tally, tallied}

abbrev pub plus : Tally → Tally → Tally
plus a b = record {
  raised = a.raised + b.raised;
  pending = a.pending + b.pending;
  fulfilled = a.fulfilled + b.fulfilled;
  violated = a.violated + b.violated;
}

-- the tallies of rules after n states
abbrev pub summed : Labels → (n : ℕ) → List Rule → Tally
summed labels n [] = no_tally
summed labels n (r ∷ rs) = plus (tallied labels r n n) (summed labels n rs)

-- no count of a tally is above n
pub record Few (n : ℕ) (t : Tally) : Type 0 where
  pub raised : t.raised ≤ n
  pub pending : t.pending ≤ n
  pub fulfilled : t.fulfilled ≤ n
  pub violated : t.violated ≤ n
