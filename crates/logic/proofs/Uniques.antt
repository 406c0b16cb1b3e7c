-- Lawful states have nominals of their own.
use Rattle.std.proofs.Common.{◌≡◌, ℕ, ◌+◌, ◌<◌, ◌≤◌, sym, ◌∙◌, ⊎_elim, arith}
use Rattle.std.proofs.lemmas.Bool.{cases_lt, cases_eq}
use Rattle.logic.specs.States.{Trace}
use Rattle.logic.specs.Logic.{Carries}
use Rattle.logic.specs.Lawful.{LawfulTo, Lawful}

-- no nominal stands on two of the first n states
abbrev pub UniqueTo : (n : ℕ) → Trace → Type 0
UniqueTo n s = (i j a : ℕ) → 1 ≤ i → i ≤ n → 1 ≤ j → j ≤ n → Carries (s i) a → Carries (s j) a → i ≡ j

pub unique : (n : ℕ) (s : Trace) → LawfulTo n s → UniqueTo n s
unique n s law i j a i1 in' j1 jn ci cj =
    let same : (s i).nominal ≡ (s j).nominal = ci.1 ∙ sym cj.1 in
    ⊎_elim
    (λ (e : i ≡ j). e)
    (λ ne.
    ⊎_elim
    (λ (w : i < j). absurd ((law j j1 jn).0 (omega (arith, ci.0, cj.1), (i, i1, w, same))))
    (λ (w : j ≤ i). absurd ((law i i1 in').0 (omega (arith, ci.0, ci.1), (j, j1, omega (arith, ne), sym same))))
    (cases_lt i j))
    (cases_eq i j)

-- on a lawful endless trace, on no two states at all
pub unique_endless : (s : Trace) → Lawful s → (i j a : ℕ) → 1 ≤ i → 1 ≤ j → Carries (s i) a → Carries (s j) a → i ≡ j
unique_endless s law i j a i1 j1 = unique (i + j) s (λ k k1 _. law k k1) i j a i1 (omega arith) j1 (omega arith)
