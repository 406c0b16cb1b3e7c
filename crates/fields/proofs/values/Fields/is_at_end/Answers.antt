use Rattle.std.proofs.Common.{length, length-drop, ap, arith, ◌≡◌, ◌-◌, ◌∙◌, sym}
use Rattle.std.proofs.lemmas.List.{drop_all}
use Rattle.fields.proofs.values.Fields.is_at_end.Goals as goal

pub returns : goal.returns
returns c = (
  λ e. drop_all c.args.self.now.at c.args.self.now.line.now (grind (arith, e)),
  λ e. let n : length c.args.self.now.line.now - c.args.self.now.at ≡ 0 = sym (length-drop c.args.self.now.at c.args.self.now.line.now) ∙ ap length e in grind (arith, n, c.type_inv.self),
)
