use Rattle.std.proofs.Common.{◌≡◌, Err, Result, ℕ, sym, refl, ap, subst, rules, is_ok, ◌∙◌}
use Rattle.monitor.specs.Live.{states_of, count_of, ground_of}
use Rattle.refusals.specs.Numbers.{told}
use Rattle.watch_lib.specs.declared.lines.Line.{Line}
use Rattle.watch_lib.specs.Watched.{Steps}
use Rattle.watch_lib.proofs.Taking.{not_taken, refused_line}
use Rattle.watch_lib.proofs.watcher.Watcher.take_line.Goals as goal

pub returns-in_err-map_err-clause-steps : goal.returns-in_err-map_err-clause-steps
returns-in_err-map_err-clause-steps g c =
    let m = c.args.self.now.monitor in
    let xs = states_of m in
    let G = ground_of m in
    let w = refused_line c.append.result c.map_err-2.result c.in_err-map_err.field-0.0 c.args.place c.in_err-map_err.ensures.cases c.in_err-map_err.was (λ x e. c.in_err-map_err.was ∙ e) (λ e p. search rules) in
    let same : c.append.new.self ≡ m = c.append.ensures.same (ap is_ok w.1) in
    let stop : c.from_residual-in_err-map_err.result ≡ Err c.in_err-map_err.field-0.0 = search rules in
    subst (λ (r : Result ℕ Line). Steps G xs c.args.text.now c.args.place r (states_of c.append.new.self)) (sym stop) (
      (told w.0).number,
      not_taken (count_of m) c.count-count.result G xs c.args.text.now c.in_ok-line.line.value c.in_ok-line.line.used _ w.0 _ c.args.self.now.own c.count-count.ensures (search rules) (sym w.1 ∙ c.append.ensures.is) refl,
      w.2,
      ap states_of same,
    )
