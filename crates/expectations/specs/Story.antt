-- A story by hand: the labels of a rule's condition and content at six states, and what they give. A slot is taken at states 1, 3, 4
-- and 6, and freed at 2 and 5; when it is taken, it is expected not to be taken again until it is freed.
use Rattle.std.specs.Prelude.{◌≡◌, zero, suc, List, [], ◌∷◌, slice_index_or}
use Rattle.logic.specs.declared.types.Rule.{Rule}
use Rattle.expectations.specs.declared.types.Label.{Label}
use Rattle.expectations.specs.declared.types.Label.TheVariants.{Unknown, TrueFrom, FalseFrom}
use Rattle.expectations.specs.declared.types.Verdict.TheVariants as is
use Rattle.expectations.specs.declared.types.Standing.TheVariants.{NotRaised, Pending, Fulfilled, Violated}
use Rattle.expectations.specs.declared.types.Event.TheVariants.{Raising, Fulfilling, Violating}
use Rattle.expectations.specs.Expectations.{Labels, verdict, standing, tallied, notice, notices}

-- of the states 1 to 6, after a place that is no state: formula 0, taken; and formula 1, what is expected then
abbrev pub taken : List Label
taken = Unknown ∷ TrueFrom 1 ∷ FalseFrom 2 ∷ TrueFrom 3 ∷ TrueFrom 4 ∷ FalseFrom 5 ∷ TrueFrom 6 ∷ []

abbrev pub freed_in_time : List Label
freed_in_time = Unknown ∷ TrueFrom 2 ∷ FalseFrom 3 ∷ FalseFrom 4 ∷ TrueFrom 5 ∷ FalseFrom 6 ∷ Unknown ∷ []

abbrev pub story : Labels
story zero i = slice_index_or taken i Unknown
story (suc f) i = slice_index_or freed_in_time i Unknown

abbrev pub slot_rule : Rule
slot_rule = record { condition = 0; content = 1 }

-- the same the other way round: its condition is never true at once, so it raises nothing
abbrev pub late_rule : Rule
late_rule = record { condition = 1; content = 0 }

-- and one that expects what it asks for, so that it is fulfilled where it is raised
abbrev pub prompt_rule : Rule
prompt_rule = record { condition = 0; content = 0 }

pub record SlotStory : Type 0 where
  pub open_yet : verdict (story 1 3) 3 ≡ is.Unknown
  pub false_then : verdict (story 1 3) 4 ≡ is.False
  pub true_then : verdict (story 1 4) 5 ≡ is.True
  pub pending : standing story slot_rule 3 3 ≡ Pending
  pub violated : standing story slot_rule 3 6 ≡ Violated 4
  pub fulfilled : standing story slot_rule 4 6 ≡ Fulfilled 5
  pub not_raised : standing story slot_rule 2 6 ≡ NotRaised
  -- after three, four and six states
  pub three : tallied story slot_rule 3 3 ≡ record { raised = 2; pending = 1; fulfilled = 1; violated = 0 }
  pub four : tallied story slot_rule 4 4 ≡ record { raised = 3; pending = 1; fulfilled = 1; violated = 1 }
  pub six : tallied story slot_rule 6 6 ≡ record { raised = 4; pending = 1; fulfilled = 2; violated = 1 }
  pub late : tallied story late_rule 6 6 ≡ record { raised = 0; pending = 0; fulfilled = 0; violated = 0 }
  -- of point 4, where the other rule is number 0 and the slot's is number 1
  pub told : notices story (late_rule ∷ slot_rule ∷ []) 4 ≡ notice 1 3 Violating ∷ notice 1 4 Raising ∷ []
  pub told_at_once : notices story (prompt_rule ∷ []) 3 ≡ notice 0 3 Raising ∷ notice 0 3 Fulfilling ∷ []
  pub told_next : notices story (late_rule ∷ slot_rule ∷ []) 5 ≡ notice 1 4 Fulfilling ∷ []
