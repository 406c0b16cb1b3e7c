-- Whether the nominal of a state stands in a record already, as a test; its references are judged by `either_unfit`
-- (logic/specs/Tests.antt). The laws of a monitor say in words what they mean.
use Rattle.std.specs.Prelude.{ℕ, zero, suc, Bool, false, ◌&&◌, ◌||◌, List, length, ◌==◌, nat_lt}
use Rattle.logic.specs.declared.types.State.{State}
use Rattle.logic.specs.States.{state_at}

-- one of the first m states carries nominal a
unfoldable pub carried_to : List State → (a m : ℕ) → Bool
carried_to xs a zero = false
carried_to xs a (suc m) = (state_at xs (suc m)).nominal == a || carried_to xs a m

-- the nominal of a state is one, and stands on a state of the record
abbrev pub taken : List State → State → Bool
taken xs x = nat_lt 0 x.nominal && carried_to xs x.nominal (length xs)
