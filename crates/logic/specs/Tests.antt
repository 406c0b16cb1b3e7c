-- Which references a state may not have, as tests. What they decide is `Unfit` and `ReferenceUnfit` of Lawful.antt.
use Rattle.std.specs.Prelude.{ℕ, Bool, ◌&&◌, ◌||◌, ◌==◌, nat_le, nat_lt}
use Rattle.logic.specs.declared.types.Reference.{Reference}
use Rattle.logic.specs.declared.types.State.{State}

-- state i may not have the reference
abbrev pub unfit : Reference → (i : ℕ) → Bool
unfit l i = nat_lt 15 l.kind || ((l.kind == 0 && nat_lt 0 l.target) || (nat_lt 0 l.kind && (l.target == 0 || nat_le i l.target)))

-- the state, as state i, has a reference that it may not have
abbrev pub either_unfit : State → (i : ℕ) → Bool
either_unfit x i = unfit x.first i || unfit x.second i
