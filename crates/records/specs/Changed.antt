-- What a list of changes makes, and what a change record means.
use Rattle.std.specs.Prelude.{ℕ, List, [], ◌∷◌, length, take, fold, bit_xor}
use Rattle.logic.specs.declared.types.State.{State}
use Rattle.records.specs.declared.change.Change.{Change}
use Rattle.records.specs.declared.change_record.ChangeRecord.{ChangeRecord}

-- the signals after a list of changes, from those before it: each change turns the signals that differ
abbrev pub signals_shown_after : (before : ℕ) → List Change → ℕ
signals_shown_after before cs = fold (λ s c. bit_xor s c.differing) before cs

-- the state that a change makes, from the signals before it
abbrev pub changed : (before : ℕ) → Change → State
changed before c = record { signals = bit_xor before c.differing; nominal = c.nominal; first = c.first; second = c.second }

-- the states that a list of changes makes, from the signals before it
abbrev pub replayed : (before : ℕ) → List Change → List State
replayed before [] = []
replayed before (c ∷ cs) = changed before c ∷ replayed (bit_xor before c.differing) cs

-- what its first changes make, as many as it counts, where all signals are off before state 1
abbrev pub change_states : ChangeRecord → List State
change_states r = replayed 0 (take r.count r.changes)

-- as many states as there are places for changes
abbrev pub change_room : ChangeRecord → ℕ
change_room r = length r.changes
