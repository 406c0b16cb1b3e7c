use Rattle.std.proofs.Common.{refl, subst, rules}
use Rattle.std.specs.Fn.{FnOnceReturns}
use Rattle.fields.proofs.lines.read_line.Goals as goal

pub returns : goal.returns
returns g c =
    let formed = subst (FnOnceReturns g.F.FnOnce c.args.form (c.in_ok-line.line, tt)) c.in_ok-shown.ensures.ok_part c.form.ensures in
    let ranged = subst (FnOnceReturns g.G.FnOnce c.args.range (c.in_ok-shown.shown, tt)) c.in_ok-value.ensures.ok_part c.range.ensures in
    record {
      answer = (
        record {
          line = c.in_ok-line.line.now;
          first = c.in_ok-line.ensures;
          says = record { shown = c.in_ok-shown.shown; formed = (c.in_ok-line.line, formed, refl); ranged = ranged };
        },
        search rules,
      );
    }
