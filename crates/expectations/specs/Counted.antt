-- What holds of notices and tallies over all points.
use Rattle.std.specs.Prelude.{◌≡◌, ℕ, suc, ◌<◌, ◌≤◌, List, length, Some, slice_index_or}
use Rattle.std.specs.List.{slice_get}
use Rattle.logic.specs.declared.types.Rule.{Rule}
use Rattle.logic.specs.Tables.{no_rule}
use Rattle.expectations.specs.declared.types.Event.TheVariants.{Raising, Fulfilling, Violating}
use Rattle.expectations.specs.declared.types.Notice.{Notice}
use Rattle.expectations.specs.declared.types.Tally.{Tally}
use Rattle.expectations.specs.Expectations.{Labels, tallied, notices}
use Rattle.expectations.specs.Laws.{InOrder, Grows, Happens}
use Rattle.expectations.specs.Told.{times_told}

-- What is told at a point happens there.
abbrev pub ToldHappens : Type 0
ToldHappens = (n : ℕ) (labels : Labels) (rules : List Rule) (x : Notice) (c k : ℕ) → c ≤ n →
    slice_get (notices labels rules c) k ≡ Some x → Happens n labels rules x c

-- A notice is told at one point only, and at one place there.
abbrev pub ToldAtOnePoint : Type 0
ToldAtOnePoint = (labels : Labels) (rules : List Rule) (x : Notice) (c d j k : ℕ) →
    slice_get (notices labels rules c) j ≡ Some x → slice_get (notices labels rules d) k ≡ Some x → (c ≡ d) × (j ≡ k)

-- a tally counts what the notices of the points 1 to n tell of the rule with number k
abbrev pub Counts : Tally → Labels → List Rule → (n k : ℕ) → Type 0
Counts t labels rules n k =
    (t.raised ≡ times_told labels rules n k Raising) ×
    (t.fulfilled ≡ times_told labels rules n k Fulfilling) ×
    (t.violated ≡ times_told labels rules n k Violating)

-- Raised, fulfilled and violated of a rule's tally are the numbers of such notices told so far.
abbrev pub TalliesTold : Type 0
TalliesTold = (N : ℕ) (labels : Labels) (rules : List Rule) → InOrder N labels → (n k : ℕ) → n ≤ N → k < length rules →
    Counts (tallied labels (slice_index_or rules k no_rule) n n) labels rules n k

-- raised, fulfilled and violated are no fewer
abbrev pub NoFewer : (old new : Tally) → Type 0
NoFewer old new = (old.raised ≤ new.raised) × (old.fulfilled ≤ new.fulfilled) × (old.violated ≤ new.violated)

-- When a state is added, raised, fulfilled and violated do not fall.
abbrev pub TalliesGrow : Type 0
TalliesGrow = (n : ℕ) (old new : Labels) → Grows n old new → (r : Rule) →
    NoFewer (tallied old r n n) (tallied new r (suc n) (suc n))
