-- Sums of tallies. Assumes nothing.
use Rattle.std.proofs.Common.{◌≡◌, ℕ, ◌+◌, ◌<◌, ◌≤◌, List, length, get_or, drop, sym, ap, ◌∙◌, add-zero, add_assoc, zero-add, arith}
use Rattle.std.proofs.lemmas.List.{drop_more, drop_all}
use Rattle.logic.specs.declared.types.Rule.{Rule}
use Rattle.logic.specs.Tables.{no_rule}
use Rattle.expectations.specs.declared.types.Tally.{Tally}
use Rattle.expectations.specs.Expectations.{Labels, no_tally, tallied}
use Rattle.monitor.proofs.Tallies.{few}
use Rattle.watch_lib.specs.Sums.{plus, summed, Few}

pub tally_few : (labels : Labels) (r : Rule) (n : ℕ) (t : Tally) → t ≡ tallied labels r n n → n ≤ 256 → Few 256 t
tally_few labels r n t e h =
    let p = few labels r n n t e in
    record { raised = omega (arith, p.0); pending = omega (arith, p.1); fulfilled = omega (arith, p.2); violated = omega (arith, p.3) }

pub few_more : (m n : ℕ) (t : Tally) → m ≤ n → Few m t → Few n t
few_more m n t h p =
    record { raised = omega (arith, p.raised); pending = omega (arith, p.pending); fulfilled = omega (arith, p.fulfilled); violated = omega (arith, p.violated) }

pub few_sum : (m : ℕ) (s t : Tally) → Few m s → Few 256 t → Few (m + 256) (plus s t)
few_sum m s t p q =
    record { raised = omega (arith, p.raised, q.raised); pending = omega (arith, p.pending, q.pending); fulfilled = omega (arith, p.fulfilled, q.fulfilled); violated = omega (arith, p.violated, q.violated) }

pub plus_none : (t : Tally) → plus t no_tally ≡ t
plus_none t = simp add-zero

pub none_plus : (t : Tally) → plus no_tally t ≡ t
none_plus t = simp zero-add

pub plus_assoc : (a b c : Tally) → plus (plus a b) c ≡ plus a (plus b c)
plus_assoc a b c = simp add_assoc

pub sum_more : (labels : Labels) (n : ℕ) (rules : List Rule) (k : ℕ) (s t : Tally) → k < length rules → t ≡ tallied labels (get_or rules k no_rule) n n
    → plus s (summed labels n (drop k rules)) ≡ summed labels n rules → plus (plus s t) (summed labels n (drop (k + 1) rules)) ≡ summed labels n rules
sum_more labels n rules k s t h e inv =
    let rest = summed labels n (drop (k + 1) rules) in
    let step : summed labels n (drop k rules) ≡ plus t rest = ap (summed labels n) (drop_more rules k no_rule h) ∙ ap (λ (x : Tally). plus x rest) (sym e) in
    plus_assoc s t rest ∙ ap (plus s) (sym step) ∙ inv

pub sum_all : (labels : Labels) (n : ℕ) (rules : List Rule) (k : ℕ) (s : Tally) → length rules ≤ k → plus s (summed labels n (drop k rules)) ≡ summed labels n rules → s ≡ summed labels n rules
sum_all labels n rules k s h inv = sym (plus_none s) ∙ ap (λ rs. plus s (summed labels n rs)) (sym (drop_all k rules h)) ∙ inv
