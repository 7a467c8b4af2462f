use Rattle.std.proofs.Common.{◌≡◌, length}
use Rattle.ak_encls_tests.proofs.building.add_runtime.Given as goal

abbrev pub invariant-loop-i : goal.invariant-loop-i
invariant-loop-i l = record {
  frames : length l.encls.entries ≡ length l.initial.encls.entries;
  handles : l.encls.handles ≡ l.initial.encls.handles;
}
