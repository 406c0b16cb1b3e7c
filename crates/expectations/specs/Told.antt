-- The notices of all points up to one, and which of them tell an event of a rule.
use Rattle.std.specs.Prelude.{ℕ, zero, suc, Bool, true, false, ◌&&◌, List, [], ◌++◌, ◌==◌}
use Rattle.std.specs.List.{count_by}
use Rattle.logic.specs.declared.types.Rule.{Rule}
use Rattle.expectations.specs.declared.types.Event.{Event}
use Rattle.expectations.specs.declared.types.Event.TheVariants.{Raising, Fulfilling, Violating}
use Rattle.expectations.specs.declared.types.Notice.{Notice}
use Rattle.expectations.specs.Expectations.{Labels, notices}

-- the notices of the points 1 to n, in order
abbrev pub told_to : Labels → List Rule → (n : ℕ) → List Notice
told_to labels rules zero = []
told_to labels rules (suc n) = told_to labels rules n ++ notices labels rules (suc n)

abbrev pub same_event : Event → Event → Bool
same_event Raising Raising = true
same_event Raising Fulfilling = false
same_event Raising Violating = false
same_event Fulfilling Raising = false
same_event Fulfilling Fulfilling = true
same_event Fulfilling Violating = false
same_event Violating Raising = false
same_event Violating Fulfilling = false
same_event Violating Violating = true

-- a notice tells this event of an expectation of the rule with this number
abbrev pub tells_of : (rule : ℕ) → Event → Notice → Bool
tells_of k e x = (x.rule == k) && same_event e x.event

-- how many notices of the points 1 to n tell this event of the rule with number k
abbrev pub times_told : Labels → List Rule → (n k : ℕ) → Event → ℕ
times_told labels rules n k e = count_by (tells_of k e) (told_to labels rules n)
