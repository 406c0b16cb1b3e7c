-- Expectations, their standings, tallies and notices, from the labels of the formulas. States, and with them truncation
-- points, are numbered from 1, and rules from 0.
use Rattle.std.specs.Prelude.{ℕ, zero, suc, ◌+◌, Bool, true, false, cond, ◌&&◌, List, [], ◌∷◌, ◌++◌, ◌==◌, nat_le}
use Rattle.logic.specs.declared.types.Rule.{Rule}
use Rattle.expectations.specs.declared.types.Label.{Label}
use Rattle.expectations.specs.declared.types.Label.TheVariants.{Unknown, TrueFrom, FalseFrom}
use Rattle.expectations.specs.declared.types.Verdict.{Verdict}
use Rattle.expectations.specs.declared.types.Verdict.TheVariants as is
use Rattle.expectations.specs.declared.types.Standing.{Standing}
use Rattle.expectations.specs.declared.types.Standing.TheVariants.{NotRaised, Pending, Fulfilled, Violated}
use Rattle.expectations.specs.declared.types.Event.{Event}
use Rattle.expectations.specs.declared.types.Event.TheVariants.{Raising, Fulfilling, Violating}
use Rattle.expectations.specs.declared.types.Notice.{Notice}
use Rattle.expectations.specs.declared.types.Tally.{Tally}

-- the label of formula f at state i
abbrev pub Labels : Type 0
Labels = (f i : ℕ) → Label

-- a label as truncation point c reads it
abbrev pub verdict : Label → (c : ℕ) → Verdict
verdict Unknown c = is.Unknown
verdict (TrueFrom d) c = cond (nat_le d c) is.True is.Unknown
verdict (FalseFrom d) c = cond (nat_le d c) is.False is.Unknown

-- a label is true, or false, from c on and not earlier
abbrev pub true_from : Label → (c : ℕ) → Bool
true_from Unknown c = false
true_from (TrueFrom d) c = d == c
true_from (FalseFrom d) c = false

abbrev pub false_from : Label → (c : ℕ) → Bool
false_from Unknown c = false
false_from (TrueFrom d) c = false
false_from (FalseFrom d) c = d == c

-- ── Standings ──

-- a rule raises an expectation at state s exactly if its condition there is true from s on
abbrev pub raises : Labels → Rule → (s : ℕ) → Bool
raises labels r s = true_from (labels r.condition s) s

-- what has become at c of an expectation that was raised, by the label of its content
abbrev pub judged : Label → (c : ℕ) → Standing
judged Unknown c = Pending
judged (TrueFrom d) c = cond (nat_le d c) (Fulfilled d) Pending
judged (FalseFrom d) c = cond (nat_le d c) (Violated d) Pending

abbrev pub standing : Labels → Rule → (s c : ℕ) → Standing
standing labels r s c = cond (raises labels r s) (judged (labels r.content s) c) NotRaised

-- ── Tallies ──

-- how many of the numbers 1 to n pass
abbrev pub count : (ℕ → Bool) → (n : ℕ) → ℕ
count p zero = 0
count p (suc n) = count p n + cond (p (suc n)) 1 0

abbrev pub is_raised : Standing → Bool
is_raised NotRaised = false
is_raised Pending = true
is_raised (Fulfilled d) = true
is_raised (Violated d) = true

abbrev pub is_pending : Standing → Bool
is_pending NotRaised = false
is_pending Pending = true
is_pending (Fulfilled d) = false
is_pending (Violated d) = false

abbrev pub is_fulfilled : Standing → Bool
is_fulfilled NotRaised = false
is_fulfilled Pending = false
is_fulfilled (Fulfilled d) = true
is_fulfilled (Violated d) = false

abbrev pub is_violated : Standing → Bool
is_violated NotRaised = false
is_violated Pending = false
is_violated (Fulfilled d) = false
is_violated (Violated d) = true

-- the rule's expectations of states 1 to n, counted by their standings at c
abbrev pub tallied : Labels → Rule → (c n : ℕ) → Tally
tallied labels r c n = record {
  raised = count (λ s. is_raised (standing labels r s c)) n;
  pending = count (λ s. is_pending (standing labels r s c)) n;
  fulfilled = count (λ s. is_fulfilled (standing labels r s c)) n;
  violated = count (λ s. is_violated (standing labels r s c)) n;
}

abbrev pub no_tally : Tally
no_tally = record { raised = 0; pending = 0; fulfilled = 0; violated = 0 }

-- a tally with one standing more
abbrev pub added : Standing → Tally → Tally
added x t = record {
  raised = t.raised + cond (is_raised x) 1 0;
  pending = t.pending + cond (is_pending x) 1 0;
  fulfilled = t.fulfilled + cond (is_fulfilled x) 1 0;
  violated = t.violated + cond (is_violated x) 1 0;
}

-- ── Notices ──

abbrev pub notice : (k s : ℕ) → Event → Notice
notice k s e = record { rule = k; from = s; event = e }

abbrev pub only_if : Bool → Notice → List Notice
only_if b x = cond b (x ∷ []) []

-- the notices of point c on the expectation that rule r, number k, has of state s: it is raised there, fulfilled there, violated there
abbrev pub of_state : Labels → (c k : ℕ) → Rule → (s : ℕ) → List Notice
of_state labels c k r s =
    only_if (raises labels r s && s == c) (notice k s Raising) ++
    (only_if (raises labels r s && true_from (labels r.content s) c) (notice k s Fulfilling) ++
    only_if (raises labels r s && false_from (labels r.content s) c) (notice k s Violating))

-- on the m states from s on
abbrev pub from_state : Labels → (c k : ℕ) → Rule → (m s : ℕ) → List Notice
from_state labels c k r zero s = []
from_state labels c k r (suc m) s = of_state labels c k r s ++ from_state labels c k r m (suc s)

-- of a list of rules, the first of which has number k, on the states up to c
abbrev pub from_rule : Labels → (c k : ℕ) → List Rule → List Notice
from_rule labels c k [] = []
from_rule labels c k (r ∷ rs) = from_state labels c k r c 1 ++ from_rule labels c (suc k) rs

-- the notices of point c: the raisings and decisions that are dated there
abbrev pub notices : Labels → List Rule → (c : ℕ) → List Notice
notices labels rules c = from_rule labels c 0 rules
