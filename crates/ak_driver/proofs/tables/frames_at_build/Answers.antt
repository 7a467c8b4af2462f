use Rattle.std.proofs.Common.{◌+◌, sym, subst, refl, arith, List}
use Rattle.ak_driver.specs.declared.tables.FrameNote.{FrameNote}
use Rattle.ak_driver.proofs.Noting.AtBuild.{FramesUpTo, one_more_frame, all_frames}
use Rattle.ak_driver.proofs.tables.frames_at_build.Goals as goal

pub loop-f-preserved : goal.loop-f-preserved
loop-f-preserved c =
    let layout = c.args.layout.now in
    let old = c.loop-f.invariant in
    record {
      few = old.few;
      pages_are = old.pages_are;
      count_is = old.count_is;
      notes = subst (λ (l : List FrameNote). FramesUpTo l layout (c.loop-f.f + 1)) (sym c.in-Ok.ensures.items)
          (one_more_frame c.loop-f.frames.items layout c.loop-f.f _ old.notes (c.held_at_build.ensures layout old.pages_are) refl);
    }

pub returns-clause-frames : goal.returns-clause-frames
returns-clause-frames c =
    let old = c.loop-f.invariant in
    let count = old.count_is in
    let end = c.loop-f-test.false in
    all_frames c.loop-f.frames.items c.args.layout.now c.loop-f.f old.notes (omega arith) (omega arith)
