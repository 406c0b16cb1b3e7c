use Rattle.logic.proofs.Verdicts.{verdicts_are_sound_lem}
use Rattle.logic.proofs.laws.verdicts_are_sound.Goals as goal

pub returns : goal.returns
returns c = verdicts_are_sound_lem
