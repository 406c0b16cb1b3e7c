use Rattle.std.proofs.Common.{ℕ, ◌+◌, List, length, vec_items, refl, ap, ◌∙◌, ap₂, arith, length-drop}
use Rattle.monitor.specs.Book.{ground_on}
use Rattle.monitor.specs.Live.{states_of, ground_of}
use Rattle.watch_lib.proofs.Taking.{rest_part, begun, stepped}
use Rattle.watch_lib.proofs.watcher.Watcher.follow.Goals as goal

pub loop-rest-init : goal.loop-rest-init
loop-rest-init g c =
    let m = c.args.self.now.monitor in
    (refl, refl, omega (arith, ap length c.requires.fresh), begun (ground_of m) c.args.text.now (states_of m) (vec_items c.new-lines.result) c.requires.fresh c.new-lines.ensures.items)

pub loop-rest-preserved : goal.loop-rest-preserved
loop-rest-preserved g c =
    let start = c.args.self.now.monitor in
    let text : List ℕ = c.args.text.now in
    let rest : List ℕ = c.loop-rest.rest.now in
    let m = c.loop-rest.self.monitor in
    let new = c.take_line.new.self.monitor in
    let r = c.in-Ok.ensures in
    let inv = c.loop-rest.invariant in
    let table = r.table ∙ inv.0 in
    let room = r.room ∙ inv.1 in
    let used : ℕ = c.in-Ok.used in
    let left = rest_part rest used in (
      table,
      room,
      omega (arith, r.bytes.1, r.bytes.2, r.bytes.0, ap length left, length-drop used rest, inv.2),
      stepped (ground_of start) (ground_of m) (ground_of new) text rest _ (states_of m) (states_of new) (vec_items c.loop-rest.lines) (vec_items c.tell_point.new.lines) used (c.args.place + c.count.result) _
          (ap₂ ground_on inv.0 inv.1) (ap₂ ground_on table room) inv.3 r.steps c.count-in-Ok.ensures c.in_ok-tell_point-in-Ok.ensures left,
    )
