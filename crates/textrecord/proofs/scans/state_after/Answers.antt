use Rattle.std.proofs.Common.{◌∙◌, sym}
use Rattle.std.proofs.lemmas.Iterator.Consumers.{YieldsList-from_first, nth_from_yields_List}
use Rattle.textrecord.specs.Left.{states_left}
use Rattle.textrecord.specs.Listed.{states_of}
use Rattle.textrecord.proofs.Next.{same_option}
use Rattle.textrecord.proofs.scans.state_after.Goals as goal

pub returns : goal.returns
returns c =
    sym (same_option c.nth.result)
    ∙ nth_from_yields_List c.nth.result c.nth.new.self c.args.before c.nth.ensures.ran (YieldsList-from_first (λ x. x) states_left (states_of c.args.text.now) c.of.ensures)
