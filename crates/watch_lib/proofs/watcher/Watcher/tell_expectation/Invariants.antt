use Rattle.std.proofs.Common.{◌≡◌, ◌++◌, map, take, vec_items}
use Rattle.std.specs.List.{flat_map}
use Rattle.std.specs.Option.{option_to_list}
use Rattle.watch_lib.specs.declared.lines.Line.TheVariants.{Told}
use Rattle.watch_lib.proofs.watcher.Watcher.tell_expectation.Given as goal

abbrev pub invariant-loop-told : goal.invariant-loop-told
invariant-loop-told g l = vec_items l.lines ≡ vec_items l.initial.lines ++ map (Told l.point) (flat_map option_to_list (take l.told-index l.told-items))
