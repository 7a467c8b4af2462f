use Rattle.std.proofs.Common.{◌≡◌, ℕ, List, take, ◌∙◌, ap, arith}
use Rattle.ak_model.specs.Control.ControlState.{Phase, New, Running, Calling, Asked, Ended, Trapped, Dead}
use Rattle.ak_model.specs.Flat.Instructions.{le_value}
use Rattle.ak_pager.specs.RuntimePages.{SaysMore}
use Rattle.ak_pager.specs.Remembered.{phase_of}
use borrow.Rule.Slice.PartMut.{put_mid}
use Rattle.ak_pager.proofs.Parts.{front_part, end_part, put_read}
use Rattle.ak_pager.proofs.state.State.store.Goals as goal

-- what a phase says besides, in the same first bytes
same_more : (phase : Phase) (xs ys : List ℕ) → take 24 xs ≡ take 24 ys → SaysMore phase ys → SaysMore phase xs
same_more New xs ys e h = tt
same_more Running xs ys e h = tt
same_more Calling xs ys e h = tt
same_more (Asked c) xs ys e h = ap le_value (front_part 8 8 24 xs ys (omega arith) e) ∙ h
same_more (Ended s) xs ys e h = ap le_value (front_part 8 16 24 xs ys (omega arith) e) ∙ h
same_more (Trapped v) xs ys e h = (ap le_value (front_part 8 16 24 xs ys (omega arith) e) ∙ h.0, h.1)
same_more Dead xs ys e h = tt

pub returns : goal.returns
returns c =
    let new = c.store-2.new.state in
    let between = c.store.new.bytes in
    let others = c.store-2.ensures.others in
    let stored = c.store-2.ensures.stored in
    record {
      phase_is = ap le_value (front_part 8 0 24 new between (omega arith) others.before) ∙ c.store.ensures.number;
      more = same_more (phase_of c.args.self.now.phase) new between others.before c.store.ensures.more;
      size = stored.size;
      clusters = stored.clusters;
      frame_is = ap (λ l. take 200 l) (others.after ∙ end_part 24 2024 between (put_mid 2048 200 c.args.bytes.now c.copy_from_slice.new.self) c.store.ensures.rest)
          ∙ put_read c.args.bytes.now c.copy_from_slice.new.self 2048 200 (omega arith) (omega arith) ∙ c.copy_from_slice.ensures.after;
    }
