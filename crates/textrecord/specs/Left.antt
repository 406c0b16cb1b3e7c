-- What the scan of a trace text has still to give.
use Rattle.std.specs.Prelude.{◌-◌, List}
use Rattle.logic.specs.declared.types.State.{State}
use Rattle.textrecord.specs.declared.scans.States.{States}
use Rattle.textrecord.specs.Listed.{states_from}

-- the states of the leading lines that are not read yet
abbrev pub states_left : States → List State
states_left s = states_from (256 - s.count) s.count s.text.now
