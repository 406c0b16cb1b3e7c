use Rattle.std.proofs.Common.{◌≡◌, ℕ, ◌+◌, ◌⊎◌, List, length, refl, subst, ⊎_elim, arith}
use Rattle.logic.specs.declared.types.State.{State}
use Rattle.fields.proofs.Follow.{Shorter, compared}
use Rattle.traces.proofs.Unique.{one_state}
use Rattle.traces.specs.Meanings.{Passes}
use Rattle.textrecord.specs.Listed.{Listed, states_of, ListsLines, OneList}
use Rattle.textrecord.proofs.Passing.{run_from}

pub lists_lines_lem : ListsLines
lists_lines_lem text =
    let d = run_from 256 0 text refl in
    let e : length (states_of text) ≡ 0 + length (states_of text) = omega arith in
    record { rest = d.0; lines = d.1; ended = λ q u p. d.2 q u (subst (λ z. Passes z q d.0 u) e p) }

-- after the last listed line there is no more
longest : (text : List ℕ) (ys xs : List State) (l : Listed text ys) → Shorter Passes 0 ys xs l.rest → ⊥
longest text ys xs l w =
    let e : 0 + length ys ≡ length ys = omega arith in
    l.ended w.next w.after (subst (λ z. Passes z w.next l.rest w.after) e w.line)

pub one_list : OneList
one_list text xs ys a b =
    ⊎_elim
    (λ (h : (xs ≡ ys) × (a.rest ≡ b.rest)). h.0)
    (λ (h : Shorter Passes 0 xs ys a.rest ⊎ Shorter Passes 0 ys xs b.rest).
    absurd (⊎_elim (λ (w : Shorter Passes 0 xs ys a.rest). longest text xs ys a w) (λ (w : Shorter Passes 0 ys xs b.rest). longest text ys xs b w) h))
    (compared Passes one_state 0 xs ys text a.rest b.rest a.lines b.lines)
