use Rattle.std.proofs.Common.{◌≡◌, ◌≤◌, length}
use Rattle.ak_driver.proofs.Noting.AtBuild.{FramesUpTo}
use Rattle.ak_driver.proofs.tables.frames_at_build.Given as goal

abbrev pub invariant-loop-f : goal.invariant-loop-f
invariant-loop-f l = record {
  few : l.pages ≤ 512;
  pages_are : l.pages ≡ length l.layout.perms;
  count_is : l.count ≡ l.layout.frames;
  notes : FramesUpTo l.frames.items l.layout l.f;
}
