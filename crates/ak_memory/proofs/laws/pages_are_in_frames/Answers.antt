use Rattle.ak_epcm.proofs.PageFrames.{frame_with-has}
use Rattle.ak_memory.proofs.Putting.{whole_page-is, bytes_in_frame, bytes_with}
use Rattle.ak_memory.proofs.laws.pages_are_in_frames.Goals as goal

pub returns : goal.returns
returns c = record {
  frame = bytes_in_frame;
  whole = whole_page-is;
  shown = λ frames entries f p distinct has size. bytes_with frames entries f p (frame_with-has entries f p distinct has) size;
}
