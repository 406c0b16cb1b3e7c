-- Tallies that are counted state by state. Assumes nothing.
use Rattle.std.proofs.Common.{◌≡◌, ℕ, zero, suc, ◌+◌, ◌-◌, ◌*◌, ◌≤◌, List, get_or, sym, ap, ◌∙◌, subst, arith}
use Rattle.logic.specs.declared.types.Rule.{Rule}
use Rattle.logic.specs.Tables.{no_rule}
use Rattle.labels.specs.declared.dated.Dated.{Dated}
use Rattle.table.specs.Tables.{rules_of}
use Rattle.table.specs.declared.finished.Table.{Table}
use Rattle.expectations.specs.declared.types.Standing.{Standing}
use Rattle.expectations.specs.declared.types.Tally.{Tally}
use Rattle.expectations.specs.Expectations.{Labels, standing, tallied, added, is_raised, is_pending, is_fulfilled, is_violated}
use Rattle.expectations.proofs.Counts.{count_le}
use Rattle.monitor.specs.declared.book.Book.{Book}
use Rattle.monitor.specs.Book.{cell_at, tally_in, SameButTallies}

abbrev Few : ℕ → Tally → Type 0
Few n t = (t.raised ≤ n) × (t.pending ≤ n) × (t.fulfilled ≤ n) × (t.violated ≤ n)

pub few : (lab : Labels) (r : Rule) (c n : ℕ) (t : Tally) → t ≡ tallied lab r c n → Few n t
few lab r c n t e = subst (Few n) (sym e) (count_le (λ s. is_raised (standing lab r s c)) n, count_le (λ s. is_pending (standing lab r s c)) n, count_le (λ s. is_fulfilled (standing lab r s c)) n, count_le (λ s. is_violated (standing lab r s c)) n)

pub tallied_more : (lab : Labels) (r : Rule) (c s : ℕ) (t t' : Tally) (x : Standing) → 1 ≤ s → t ≡ tallied lab r c (s - 1) → x ≡ standing lab r s c → t' ≡ added x t → t' ≡ tallied lab r c (s + 1 - 1)
tallied_more lab r c zero t t' x h e f g = absurd (omega arith)
tallied_more lab r c (suc s) t t' x h e f g =
    let a : suc s - 1 ≡ s = omega arith in
    let b : suc s + 1 - 1 ≡ suc s = omega arith in
    let i : t ≡ tallied lab r c s = rw a at e in
    rw b (g ∙ rw (f, i))

-- memories that differ in nothing but their tallies count the same by their labels
tally_by : Table → ℕ → List Dated → ℕ → Tally
tally_by t n cells r = tallied (λ f i. cell_at cells (f * n + (i - 1))) (get_or (rules_of t.draft) r no_rule) n n

pub tally_same : (a b : Book) → SameButTallies a b → (r : ℕ) → tally_in a r ≡ tally_in b r
unfolding tally_by
tally_same a b same r =
    ap (λ t. tally_by t a.count a.cells r) (sym same.0) ∙ ap (λ n. tally_by b.table n a.cells r) (sym same.1) ∙ ap (λ cells. tally_by b.table b.count cells r) (sym same.2)
