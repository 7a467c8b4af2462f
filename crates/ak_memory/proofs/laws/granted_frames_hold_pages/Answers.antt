use Rattle.ak_epcm.proofs.PageFrames.{frame_with-has}
use Rattle.ak_memory.proofs.Granted.{granted_has}
use Rattle.ak_memory.proofs.laws.granted_frames_hold_pages.Goals as goal

pub returns : goal.returns
returns c = record {
  page = granted_has;
  frame = λ entries table cached t f named distinct is.
      frame_with-has entries f.0 t.page.0 distinct (granted_has entries table cached t f named is);
}
