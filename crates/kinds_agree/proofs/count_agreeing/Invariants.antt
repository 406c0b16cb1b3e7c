use Rattle.std.proofs.Common.{◌≡◌, ℕ, ◌<◌, ◌≤◌, length}
use Rattle.table.specs.Tables.{formulas_of}
use Rattle.kinds_agree.specs.Logs.{numbered}
use Rattle.kinds_agree.specs.Sames.{KindsAgreed}
use Rattle.kinds_agree.proofs.count_agreeing.Given as goal

abbrev pub invariant-loop-k : goal.invariant-loop-k
invariant-loop-k l =
    (l.agreed ≤ l.k) × (l.agreed ≡ l.k → (j : ℕ) → j < l.k → KindsAgreed l.table (numbered j))
    × (length (formulas_of l.table.draft) ≤ 32 → l.agreed ≡ l.k) × (32 < length (formulas_of l.table.draft) → l.agreed ≡ 0)
