use Rattle.ak_relation.proofs.Runtime.FrameWrites.{writes_by, slots_by}
use Rattle.ak_relation.proofs.laws.runtime.frames_written.Goals as goal

pub returns : goal.returns
returns c = record {
  pages = writes_by;
  slots = slots_by;
}
