use Rattle.ak_ssa.proofs.FramesReturn.{stored_back, same_frame}
use Rattle.ak_ssa.proofs.Room.{room as has_room}
use Rattle.ak_ssa.proofs.laws.saved_frames_return.Goals as goal

pub returns : goal.returns
returns c = record {
  returns = λ layout place bytes frame room fits has. stored_back layout room frame fits place bytes has;
  one = λ layout place bytes frame other room. same_frame layout room place bytes frame other;
  room = has_room;
}
