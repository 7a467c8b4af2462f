use Rattle.ak_model.proofs.Misses.SoundMissesFit.{sound-misses}
use Rattle.ak_model.proofs.laws.misses.sound_misses_fit.Goals as goal

pub returns : goal.returns
returns c = sound-misses
