use Rattle.ak_run.proofs.Sound.{faithful_sound}
use Rattle.ak_run.proofs.laws.faithful_journals_are_sound.Goals as goal

pub returns : goal.returns
returns c = faithful_sound
