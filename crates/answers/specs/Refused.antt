-- Why a query is refused, in words: of its reasons the first that fits. n is the count of accepted states.
use Rattle.std.specs.Prelude.{◌≡◌, ℕ, ◌<◌, ◌≤◌, true, false, ◌⊎◌, List, length, Ok, Err}
use Rattle.logic.specs.declared.types.State.{State}
use Rattle.refusals.specs.declared.Refusal.{Refusal}
use Rattle.refusals.specs.declared.Refusal.TheVariants as refusal
use Rattle.answers.specs.declared.types.Call.TheVariants.{LabelAt, StandingAt, TallyOf, NoticeOf}
use Rattle.answers.specs.declared.types.Answer.{Answer}
use Rattle.answers.specs.Answers.{Ground, told}

-- i is no number from low to high
abbrev pub NotWithin : (i low high : ℕ) → Type 0
NotWithin i low high = (i < low) ⊎ (high < i)

abbrev pub LabelRefused : Ground → (n f i c : ℕ) → Refusal → Type 0
LabelRefused G n f i c refusal.NoSuchName = G.formulas ≤ f
LabelRefused G n f i c refusal.LooseFormula = (f < G.formulas) × (G.loose f ≡ true)
LabelRefused G n f i c refusal.NoSuchState = (f < G.formulas) × (G.loose f ≡ false) × NotWithin i 1 n
LabelRefused G n f i c refusal.NoSuchPoint = (f < G.formulas) × (G.loose f ≡ false) × (1 ≤ i) × (i ≤ n) × NotWithin c i n
LabelRefused G n f i c why = ⊥

abbrev pub StandingRefused : Ground → (n r i c : ℕ) → Refusal → Type 0
StandingRefused G n r i c refusal.NoSuchName = length G.rules ≤ r
StandingRefused G n r i c refusal.NoSuchState = (r < length G.rules) × NotWithin i 1 n
StandingRefused G n r i c refusal.NoSuchPoint = (r < length G.rules) × (1 ≤ i) × (i ≤ n) × NotWithin c i n
StandingRefused G n r i c why = ⊥

abbrev pub TallyRefused : Ground → (r : ℕ) → Refusal → Type 0
TallyRefused G r refusal.NoSuchName = length G.rules ≤ r
TallyRefused G r why = ⊥

abbrev pub NoticeRefused : (n c : ℕ) → Refusal → Type 0
NoticeRefused n c refusal.NoSuchPoint = NotWithin c 1 n
NoticeRefused n c why = ⊥

-- A query is refused for what its refusal says, and answered only where none of its refusals fits.
pub record QueriesRefused (G : Ground) (xs : List State) : Type 0 where
  pub label_refused : (f i c : ℕ) (why : Refusal) → told G xs (LabelAt f i c) ≡ Err why → LabelRefused G (length xs) f i c why
  pub label_answered : (f i c : ℕ) (a : Answer) → told G xs (LabelAt f i c) ≡ Ok a → (why : Refusal) → LabelRefused G (length xs) f i c why → ⊥
  pub standing_refused : (r i c : ℕ) (why : Refusal) → told G xs (StandingAt r i c) ≡ Err why → StandingRefused G (length xs) r i c why
  pub standing_answered : (r i c : ℕ) (a : Answer) → told G xs (StandingAt r i c) ≡ Ok a → (why : Refusal) → StandingRefused G (length xs) r i c why → ⊥
  pub tally_refused : (r : ℕ) (why : Refusal) → told G xs (TallyOf r) ≡ Err why → TallyRefused G r why
  pub tally_answered : (r : ℕ) (a : Answer) → told G xs (TallyOf r) ≡ Ok a → (why : Refusal) → TallyRefused G r why → ⊥
  pub notice_refused : (c k : ℕ) (why : Refusal) → told G xs (NoticeOf c k) ≡ Err why → NoticeRefused (length xs) c why
  pub notice_answered : (c k : ℕ) (a : Answer) → told G xs (NoticeOf c k) ≡ Ok a → (why : Refusal) → NoticeRefused (length xs) c why → ⊥
