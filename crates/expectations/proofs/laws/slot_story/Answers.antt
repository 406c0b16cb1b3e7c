use Rattle.std.proofs.Common.{refl}
use Rattle.expectations.proofs.laws.slot_story.Goals as goal

pub returns : goal.returns
returns c = record {
  open_yet = refl;
  false_then = refl;
  true_then = refl;
  pending = refl;
  violated = refl;
  fulfilled = refl;
  not_raised = refl;
  three = refl;
  four = refl;
  six = refl;
  late = refl;
  told = refl;
  told_at_once = refl;
  told_next = refl;
}
