-- Every numbered log is lawful. Assumes nothing.
use Rattle.std.proofs.Common.{◌≡◌, ℕ, zero, suc, ◌*◌, ◌/◌, ◌%◌, ◌<◌, ◌≤◌, cond, ◌==◌, length, refl, sym, ◌∙◌, ⊎_elim, arith}
use Rattle.std.proofs.lemmas.Bool.Decides.{nat_tests}
use Rattle.logic.specs.States.{no_reference, state_at}
use Rattle.logic.specs.Lawful.{NominalTaken, Unfit, ReferenceUnfit}
use Rattle.table.specs.Tables.{formulas_of}
use Rattle.table.specs.declared.finished.Table.{Table}
use Rattle.kinds_agree.specs.Logs.{referring, numbered}
use Rattle.kinds_agree.specs.Sames.{Labellable}

-- the nominal of state i, where this digit names the state that has it
abbrev nominal_of : (digit i : ℕ) → ℕ
nominal_of digit i = cond (digit == i) 1 0

named_once : (digit i j : ℕ) → j < i → 0 < nominal_of digit i → nominal_of digit j ≡ nominal_of digit i → ⊥
named_once digit i j less some same = grind (arith, nat_tests)

nominal_is : (k i : ℕ) → 1 ≤ i → i ≤ 3 → (state_at (numbered k) i).nominal ≡ nominal_of (k / 64 % 4) i
nominal_is k zero one most = absurd (omega arith)
nominal_is k (suc zero) one most = refl
nominal_is k (suc (suc zero)) one most = refl
nominal_is k (suc (suc (suc zero))) one most = refl
nominal_is k (suc (suc (suc (suc i)))) one most = absurd (omega arith)

not_taken : (k i : ℕ) → 1 ≤ i → i ≤ 3 → NominalTaken (state_at (numbered k)) i → ⊥
not_taken k i one most taken =
    let j = taken.1.0 in
    let here = nominal_is k i one most in
    let there = nominal_is k j taken.1.1 (omega (arith, taken.1.2)) in
    named_once (k / 64 % 4) i j taken.1.2 (omega (arith, taken.0, here)) (sym there ∙ taken.1.3 ∙ here)

none_fits : (i : ℕ) → Unfit no_reference i → ⊥
none_fits i unfit = grind arith

referring_fits : (digit : ℕ) → Unfit (referring digit) 3 → ⊥
referring_fits digit unfit = grind (arith, nat_tests)

references_fit : (k i : ℕ) → 1 ≤ i → i ≤ 3 → ReferenceUnfit (state_at (numbered k)) i → ⊥
references_fit k zero one most unfit = absurd (omega arith)
references_fit k (suc zero) one most unfit = ⊎_elim (none_fits 1) (none_fits 1) unfit
references_fit k (suc (suc zero)) one most unfit = ⊎_elim (none_fits 2) (none_fits 2) unfit
references_fit k (suc (suc (suc zero))) one most unfit = ⊎_elim (referring_fits (k / 256 % 4)) (none_fits 3) unfit
references_fit k (suc (suc (suc (suc i)))) one most unfit = absurd (omega arith)

pub numbered_labellable : (t : Table) (k : ℕ) → length (formulas_of t.draft) ≤ 32 → Labellable 64 96 96 t (numbered k)
numbered_labellable t k few =
    ((omega arith, omega arith), (omega arith, omega arith), λ i one most. (not_taken k i one most, references_fit k i one most))

-- three states at more than 32 formulas take more than 96 cells
pub numbered_long : (t : Table) (k : ℕ) → Labellable 64 96 96 t (numbered k) → 32 < length (formulas_of t.draft) → ⊥
numbered_long t k able many = let room : length (formulas_of t.draft) * 3 ≤ 96 = able.1.0 in omega (arith, room, many)
