use Rattle.growth.proofs.Growing.{labels_are_sound_lem}
use Rattle.growth.proofs.labels_are_sound.Goals as goal

pub returns : goal.returns
returns c = labels_are_sound_lem
