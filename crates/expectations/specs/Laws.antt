-- What holds of expectations, whatever the rules: labels need only be dated in order, and stay when a state is added.
use Rattle.std.specs.Prelude.{◌≡◌, ℕ, suc, ◌+◌, ◌<◌, ◌≤◌, ◌⊎◌, List, length, get_or, Some, ◌≢◌, slice_index_or}
use Rattle.std.specs.List.{slice_get}
use Rattle.logic.specs.declared.types.Rule.{Rule}
use Rattle.logic.specs.Tables.{no_rule}
use Rattle.expectations.specs.declared.types.Label.{Label}
use Rattle.expectations.specs.declared.types.Label.TheVariants.{Unknown, TrueFrom, FalseFrom}
use Rattle.expectations.specs.declared.types.Verdict.{Verdict}
use Rattle.expectations.specs.declared.types.Verdict.TheVariants as is
use Rattle.expectations.specs.declared.types.Standing.{Standing}
use Rattle.expectations.specs.declared.types.Standing.TheVariants.{NotRaised, Pending, Fulfilled, Violated}
use Rattle.expectations.specs.declared.types.Event.{Event}
use Rattle.expectations.specs.declared.types.Event.TheVariants.{Raising, Fulfilling, Violating}
use Rattle.expectations.specs.declared.types.Notice.{Notice}
use Rattle.expectations.specs.Expectations.{Labels, verdict, standing, tallied, notices}
use Rattle.expectations.specs.Words.{of_verdict, of_standing, of_event}

-- ── What labels are like ──

-- no verdict on state i is dated before i
abbrev pub NotBefore : (i : ℕ) → Label → Type 0
NotBefore i Unknown = Unit {0}
NotBefore i (TrueFrom d) = i ≤ d
NotBefore i (FalseFrom d) = i ≤ d

abbrev pub InOrder : (n : ℕ) → Labels → Type 0
InOrder n labels = (f i : ℕ) → 1 ≤ i → i ≤ n → NotBefore i (labels f i)

-- the label of a state among n, and its label when one state more has come: a verdict stays, and a new one is dated at the new state
abbrev pub Grown : (n : ℕ) → (old new : Label) → Type 0
Grown n Unknown new = (new ≡ Unknown) ⊎ ((new ≡ TrueFrom (suc n)) ⊎ (new ≡ FalseFrom (suc n)))
Grown n (TrueFrom d) new = new ≡ TrueFrom d
Grown n (FalseFrom d) new = new ≡ FalseFrom d

abbrev pub Grows : (n : ℕ) → (old new : Labels) → Type 0
Grows n old new = (f i : ℕ) → 1 ≤ i → i ≤ n → Grown n (old f i) (new f i)

-- ── What happens ──

-- a rule raises an expectation at state s
abbrev pub Raises : Labels → Rule → (s : ℕ) → Type 0
Raises labels r s = labels r.condition s ≡ TrueFrom s

-- what it means that an expectation of state s stands so at c
abbrev pub StandsAs : Labels → Rule → (s c : ℕ) → Standing → Type 0
StandsAs labels r s c NotRaised = Raises labels r s → ⊥
StandsAs labels r s c Pending =
    Raises labels r s × ((d : ℕ) → d ≤ c → (labels r.content s ≡ TrueFrom d) ⊎ (labels r.content s ≡ FalseFrom d) → ⊥)
StandsAs labels r s c (Fulfilled d) = Raises labels r s × (labels r.content s ≡ TrueFrom d) × (d ≤ c)
StandsAs labels r s c (Violated d) = Raises labels r s × (labels r.content s ≡ FalseFrom d) × (d ≤ c)

-- an event of an expectation that was raised at s has the date c, by the label of its content
abbrev pub DatedAt : Event → Label → (s c : ℕ) → Type 0
DatedAt Raising content s c = s ≡ c
DatedAt Fulfilling content s c = content ≡ TrueFrom c
DatedAt Violating content s c = content ≡ FalseFrom c

-- what a notice tells is so, over n states: its rule raises an expectation at its state, and its event has the date c
abbrev pub Happens : (n : ℕ) → Labels → List Rule → Notice → (c : ℕ) → Type 0
Happens n labels rules x c =
    (x.rule < length rules) × (1 ≤ x.from) × (x.from ≤ n) ×
    Raises labels (slice_index_or rules x.rule no_rule) x.from ×
    DatedAt x.event (labels (get_or rules x.rule no_rule).content x.from) x.from c

-- a notice stands in a list, at one place only
abbrev pub StandsOnce : Notice → List Notice → Type 0
StandsOnce x xs = (k : ℕ) × (slice_get xs k ≡ Some x) × ((j : ℕ) → slice_get xs j ≡ Some x → j ≡ k)

abbrev pub StandsNowhere : Notice → List Notice → Type 0
StandsNowhere x xs = (k : ℕ) → slice_get xs k ≢ Some x

-- the order of notices: by rule, then by raising state, a raising before its own decision
abbrev pub Before : Notice → Notice → Type 0
Before x y =
    (x.rule < y.rule) ⊎ ((x.rule ≡ y.rule) ×
    ((x.from < y.from) ⊎ ((x.from ≡ y.from) × (x.event ≡ Raising) × (y.event ≢ Raising))))

-- ── The laws ──

-- A standing is exactly what is so.
abbrev pub StandingsMean : Type 0
StandingsMean = (labels : Labels) (r : Rule) (s c : ℕ) (x : Standing) →
    (standing labels r s c ≡ x → StandsAs labels r s c x) × (StandsAs labels r s c x → standing labels r s c ≡ x)

-- What is decided at a point is decided so at every later one.
abbrev pub DecisionsLast : Type 0
DecisionsLast = (c e : ℕ) → c ≤ e →
    ((z : Label) → (verdict z c ≢ is.Unknown) → verdict z e ≡ verdict z c) ×
    ((labels : Labels) (r : Rule) (s : ℕ) → (standing labels r s c ≢ Pending) → standing labels r s e ≡ standing labels r s c)

-- Every expectation raised is pending, fulfilled or violated, and only one of them.
abbrev pub TalliesSum : Type 0
TalliesSum = (labels : Labels) (r : Rule) (c n : ℕ) →
    (tallied labels r c n).raised ≡ (tallied labels r c n).pending + ((tallied labels r c n).fulfilled + (tallied labels r c n).violated)

-- What happens at a point stands once among its notices, and nothing else stands there.
abbrev pub HappensOnce : Type 0
HappensOnce = (n : ℕ) (labels : Labels) (rules : List Rule) → InOrder n labels → (x : Notice) (c : ℕ) → c ≤ n →
    (Happens n labels rules x c → StandsOnce x (notices labels rules c)) ×
    ((Happens n labels rules x c → ⊥) → StandsNowhere x (notices labels rules c))

-- Nothing happens at two points.
abbrev pub HasOneDate : Type 0
HasOneDate = (n : ℕ) (labels : Labels) (rules : List Rule) (x : Notice) (c d : ℕ) →
    Happens n labels rules x c → Happens n labels rules x d → c ≡ d

abbrev pub NoticesInOrder : Type 0
NoticesInOrder = (labels : Labels) (rules : List Rule) (c j k : ℕ) (x y : Notice) → j < k →
    slice_get (notices labels rules c) j ≡ Some x → slice_get (notices labels rules c) k ≡ Some y → Before x y

-- When a state is added, the labels read the same at the points before it.
abbrev pub VerdictsStay : Type 0
VerdictsStay = (n : ℕ) (old new : Labels) → Grows n old new → (f i c : ℕ) → 1 ≤ i → i ≤ n → c ≤ n →
    verdict (new f i) c ≡ verdict (old f i) c

-- When a state is added, the standings at the points before it are the same.
abbrev pub StandingsStay : Type 0
StandingsStay = (n : ℕ) (old new : Labels) → Grows n old new → (r : Rule) (s c : ℕ) → 1 ≤ s → s ≤ c → c ≤ n →
    standing new r s c ≡ standing old r s c

-- What is decided at a point is decided so at every later one, also when a state is added.
abbrev pub DecisionsStay : Type 0
DecisionsStay = (n : ℕ) (old new : Labels) → Grows n old new → (c e : ℕ) → c ≤ n → c ≤ e →
    ((f i : ℕ) → 1 ≤ i → i ≤ n → (verdict (old f i) c ≢ is.Unknown) → verdict (new f i) e ≡ verdict (old f i) c) ×
    ((r : Rule) (s : ℕ) → 1 ≤ s → s ≤ c → (standing old r s c ≢ Pending) → standing new r s e ≡ standing old r s c)

-- When a state is added, the notices of the points before it are the same.
abbrev pub NoticesStay : Type 0
NoticesStay = (n : ℕ) (old new : Labels) → Grows n old new → (rules : List Rule) (c : ℕ) → c ≤ n →
    notices new rules c ≡ notices old rules c

-- Two answers of one kind that have the same number, or the same word, are the same; two standings, if they have the same date too.
abbrev pub AnswersDiffer : Type 0
AnswersDiffer =
    ((x y : Verdict) → ((of_verdict x).number ≡ (of_verdict y).number) ⊎ ((of_verdict x).word ≡ (of_verdict y).word) → x ≡ y) ×
    ((x y : Standing) → ((of_standing x).number ≡ (of_standing y).number) ⊎ ((of_standing x).word ≡ (of_standing y).word) → (of_standing x).date ≡ (of_standing y).date → x ≡ y) ×
    ((x y : Event) → ((of_event x).number ≡ (of_event y).number) ⊎ ((of_event x).word ≡ (of_event y).word) → x ≡ y)
