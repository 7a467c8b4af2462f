use Rattle.std.proofs.Common.{◌≡◌, ◌+◌, ◌≤◌, length}
use Rattle.ak_encls.specs.Building.{HasOnlyCycled}
use Rattle.ak_encls_tests.specs.Built.{AreSealedBelow}
use Rattle.ak_encls_tests.proofs.building.add_program.Given as goal

abbrev pub invariant-loop-p : goal.invariant-loop-p
invariant-loop-p l = record {
  frames : length l.encls.entries ≡ length l.initial.encls.entries;
  given : length l.encls.handles.sealed_pages ≡ l.p;
  sealed : AreSealedBelow l.encls.handles l.p;
  spare : l.pages ≤ l.encls.handles.spare + l.p;
  unentered : HasOnlyCycled l.encls.track;
  cycles : l.encls.track.cycles ≡ l.p;
}
