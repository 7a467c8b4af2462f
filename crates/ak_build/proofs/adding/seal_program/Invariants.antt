use Rattle.ak_build.specs.Adding.{HasAdded}
use Rattle.ak_build.proofs.adding.seal_program.Given as goal

abbrev pub invariant-loop-p : goal.invariant-loop-p
invariant-loop-p l = HasAdded l.image l.layout.frames l.layout.lps l.encls l.p 0
