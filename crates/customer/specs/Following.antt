-- One expectation, followed from state to state.
use Rattle.std.specs.Prelude.{◌≡◌, ℕ, ◌+◌, ◌<◌, ◌≤◌, List, map, take, length, Ok, Result, ◌≢◌, slice_index_or}
use Rattle.logic.specs.declared.types.State.{State}
use Rattle.records.specs.declared.growing.Growing as growing
use Rattle.records.specs.declared.readable.Readable as readable
use Rattle.refusals.specs.declared.Refusal.{Refusal}
use Rattle.expectations.specs.declared.types.Standing.{Standing}
use Rattle.expectations.specs.declared.types.Standing.TheVariants.{Pending, Violated}
use Rattle.answers.specs.declared.types.Answer.{Answer}
use Rattle.answers.specs.declared.types.Answer.TheVariants.{Stands}
use Rattle.answers.specs.declared.types.Call.{Call}
use Rattle.answers.specs.declared.types.Call.TheVariants.{Append, StandingAt}
use Rattle.answers.specs.Answers.{Ground, told, accepted}
use Rattle.answers.specs.Law.{foreign, StandingIs}
use Rattle.monitor.specs.Live.{states_of, ground_of}
use Rattle.monitor.specs.declared.live.Monitor.{Monitor}

-- the accepted states once those of a list were appended in turn
abbrev pub taken_in : Ground → (before xs : List State) → List State
taken_in G before xs = accepted G before (map Append xs)

-- what the last of the accepted states tells of the expectation
abbrev pub told_of : Ground → List State → (rule state : ℕ) → Result Answer Refusal
told_of G ys r s = told G ys (StandingAt r s (length ys))

-- of the first n answers, each after one that tells a standing that is not pending tells the same standing
abbrev pub StaysDecided : (n : ℕ) → List (Result Answer Refusal) → Type 0
StaysDecided n answers = (j k : ℕ) (s : Standing) → j ≤ k → k < n → (s ≢ Pending) →
    slice_index_or answers j foreign ≡ Ok (Stands s) → slice_index_or answers k foreign ≡ Ok (Stands s)

-- it is violated, at one date, and stays so whatever calls follow
abbrev pub Lost : Ground → List State → (rule state : ℕ) → Type 0
Lost G xs r s = (d : ℕ) × ((cs : List Call) → StandingIs G (accepted G xs cs) r s (length (accepted G xs cs)) (Violated d))

module _ {R : Type 0} {G : growing.Ghosts R} {D : readable.Ghosts R} where
  -- the states of a monitor's record once those of a list were appended in turn
  abbrev pub states_once : Monitor R G D → (xs : List State) → List State
  states_once m xs = taken_in (ground_of m) (states_of m) xs

  -- answer k is what the last state tells of the expectation, once k + 1 states of the list were appended to the monitor m
  abbrev pub EachTold : Monitor R G D → List State → (rule state : ℕ) → List (Result Answer Refusal) → Type 0
  EachTold m xs r s answers = (k : ℕ) → k < length xs →
      slice_index_or answers k foreign ≡ told_of (ground_of m) (states_once m (take (k + 1) xs)) r s
