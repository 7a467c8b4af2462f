use Rattle.ak_model.proofs.Misses.SoundMissesFit.{sound-misses}
use Rattle.ak_model.proofs.Stops.BlamedMove.{blamed-in, blamed-place}
use Rattle.ak_model.proofs.laws.stops.blamed_move.Goals as goal

pub returns : goal.returns
returns c = record {
  place = λ image layout journal stop sound h. blamed-place layout image journal stop sound.valid (sound-misses image layout journal sound) sound.breaks sound.stop h;
  broke = λ image layout journal stop sound h. blamed-in layout image journal stop sound.valid (sound-misses image layout journal sound) sound.breaks sound.stop h;
  needs = λ image layout journal stop valid misses breaks stopped h. blamed-in layout image journal stop valid misses breaks stopped h;
}
