use Rattle.ak_machine.specs.Machines.{AreNew}
use Rattle.ak_machine.proofs.build.processors.Given as goal

abbrev pub invariant-loop-lp : goal.invariant-loop-lp
invariant-loop-lp l = AreNew l.lp l.cpus.items
