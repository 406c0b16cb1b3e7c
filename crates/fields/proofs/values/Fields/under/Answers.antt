use Rattle.std.proofs.Common.{arith}
use Rattle.fields.proofs.Parted.{keyed_after}
use Rattle.fields.proofs.values.Fields.under.Goals as goal

pub returns : goal.returns
returns g c = record {
  at = _;
  within = omega arith;
  keyed = keyed_after c.args.self.now.line.now _ c.in_ok-rest.rest.now c.args.self.now.at (grind (arith, c.type_inv.self)) c.in_ok-rest.ensures;
  stands = c.field_at.ensures;
}
