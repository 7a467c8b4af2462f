use Rattle.std.proofs.Common.{length}
use Rattle.ak_build.specs.Adding.{HasAdded}
use Rattle.ak_build.proofs.adding.add_runtime.Given as goal

abbrev pub invariant-loop-i : goal.invariant-loop-i
invariant-loop-i l = HasAdded l.image l.layout.frames l.layout.lps l.encls (length l.image.perms) l.i
