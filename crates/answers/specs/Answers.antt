-- What a monitor answers after the states that it has accepted, and which states those are.
use Rattle.std.specs.Prelude.{ℕ, ◌+◌, Bool, cond, not, ◌&&◌, List, [], ◌∷◌, ◌++◌, length, Some, None, Ok, Err, Option, Result, ◌==◌, nat_le, slice_index_or}
use Rattle.std.specs.List.{slice_get}
use Rattle.logic.specs.declared.types.Rule.{Rule}
use Rattle.logic.specs.declared.types.State.{State}
use Rattle.logic.specs.Logic.{Tree}
use Rattle.logic.specs.Tests.{either_unfit}
use Rattle.logic.specs.Tables.{no_rule}
use Rattle.expectations.specs.Expectations.{Labels, verdict, standing, tallied, notices}
use Rattle.refusals.specs.declared.Refusal.{Refusal}
use Rattle.refusals.specs.declared.Refusal.TheVariants as refusal
use Rattle.answers.specs.declared.types.Call.{Call}
use Rattle.answers.specs.declared.types.Call.TheVariants.{Append, LabelAt, StandingAt, TallyOf, NoticeOf}
use Rattle.answers.specs.declared.types.Answer.{Answer}
use Rattle.answers.specs.declared.types.Answer.TheVariants.{Number, Reads, Stands, Counts, Tells}
use Rattle.answers.specs.Tests.{taken}

-- what a monitor stands on: the formulas as trees, how many there are and which of them are loose, the labels that a record
-- of states gives them, the rules, and the record's capacity
pub record Ground : Type 0 where
  pub trees : ℕ → Tree
  pub labelled : List State → Labels
  pub formulas : ℕ
  pub loose : ℕ → Bool
  pub rules : List Rule
  pub capacity : ℕ

-- i is not one of the numbers from low to high
abbrev pub outside : (i low high : ℕ) → Bool
outside i low high = not (nat_le low i && nat_le i high)

-- the first of two reasons
abbrev pub or_else : Bool → Refusal → Option Refusal → Option Refusal
or_else b r rest = cond b (Some r) rest

-- the refusal that fits a call first, after the accepted states xs
abbrev pub refusal_of : Ground → List State → Call → Option Refusal
refusal_of G xs (Append x) =
    or_else (nat_le 256 (length xs)) refusal.TooManyStates
    (or_else (nat_le G.capacity (length xs)) refusal.RecordFull
    (or_else (taken xs x) (refusal.NominalTaken (length xs + 1))
    (or_else (either_unfit x (length xs + 1)) (refusal.ReferenceUnfit (length xs + 1)) None)))
refusal_of G xs (LabelAt f i c) =
    or_else (nat_le G.formulas f) refusal.NoSuchName
    (or_else (G.loose f) refusal.LooseFormula
    (or_else (outside i 1 (length xs)) refusal.NoSuchState
    (or_else (outside c i (length xs)) refusal.NoSuchPoint None)))
refusal_of G xs (StandingAt r i c) =
    or_else (nat_le (length G.rules) r) refusal.NoSuchName
    (or_else (outside i 1 (length xs)) refusal.NoSuchState
    (or_else (outside c i (length xs)) refusal.NoSuchPoint None))
refusal_of G xs (TallyOf r) = or_else (nat_le (length G.rules) r) refusal.NoSuchName None
refusal_of G xs (NoticeOf c k) = or_else (outside c 1 (length xs)) refusal.NoSuchPoint None

-- the answer to a call that no refusal fits
abbrev pub answer : Ground → List State → Call → Answer
answer G xs (Append x) = Number (length xs + 1)
answer G xs (LabelAt f i c) = Reads (verdict (G.labelled xs f i) c)
answer G xs (StandingAt r i c) = Stands (standing (G.labelled xs) (slice_index_or G.rules r no_rule) i c)
answer G xs (TallyOf r) = Counts (tallied (G.labelled xs) (slice_index_or G.rules r no_rule) (length xs) (length xs))
answer G xs (NoticeOf c k) = Tells (slice_get (notices (G.labelled xs) G.rules c) k)

-- what is answered where a refusal may fit
abbrev pub outcome : {A : Type 0} → Option Refusal → A → Result A Refusal
outcome (Some r) v = Err r
outcome None v = Ok v

-- an answer of one kind as the answer of a call; a refusal is the same
abbrev pub as_answer : {A : Type 0} → (A → Answer) → Result A Refusal → Result Answer Refusal
as_answer f (Ok v) = Ok (f v)
as_answer f (Err r) = Err r

-- the answer to a call after the accepted states xs, or its refusal
abbrev pub told : Ground → List State → Call → Result Answer Refusal
told G xs call = outcome (refusal_of G xs call) (answer G xs call)

-- the accepted states after one call more: an append that no refusal fits adds its state
abbrev pub grown_by : Option Refusal → List State → State → List State
grown_by (Some r) xs x = xs
grown_by None xs x = xs ++ x ∷ []

abbrev pub after : Ground → List State → Call → List State
after G xs (Append x) = grown_by (refusal_of G xs (Append x)) xs x
after G xs (LabelAt f i c) = xs
after G xs (StandingAt r i c) = xs
after G xs (TallyOf r) = xs
after G xs (NoticeOf c k) = xs

-- a call that asks, and appends nothing
abbrev pub IsQuery : Call → Type 0
IsQuery (Append x) = ⊥
IsQuery _ = Unit {0}

-- the states of the appends that no refusal fits, in order
abbrev pub accepted : Ground → List State → List Call → List State
accepted G xs [] = xs
accepted G xs (c ∷ cs) = accepted G (after G xs c) cs

-- ── Over a record whose count is not the monitor's, every call gets the refusal of a foreign record ──
abbrev pub refused_by : (own : ℕ) → Ground → List State → Call → Option Refusal
refused_by own G xs call = cond (own == length xs) (refusal_of G xs call) (Some refusal.ForeignRecord)

-- what one call of a monitor that has counted `own` states answers over the states xs
abbrev pub replied : (own : ℕ) → Ground → List State → Call → Result Answer Refusal
replied own G xs call = outcome (refused_by own G xs call) (answer G xs call)

-- the states of the record after one call of a monitor that has counted `own` states
abbrev pub grown_to : (own : ℕ) → Ground → List State → Call → List State
grown_to own G xs call = cond (own == length xs) (after G xs call) xs
