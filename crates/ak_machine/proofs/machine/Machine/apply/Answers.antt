use Rattle.ak_machine.specs.Machines.{parts_of}
use Rattle.ak_machine.proofs.Sound.{sound_after}
use Rattle.ak_machine.proofs.machine.Machine.apply.Goals as goal

pub invariant_of-self : goal.invariant_of-self
invariant_of-self c = (
  sound_after (parts_of c.self.inside.layout c.self.inside.memory c.self.inside.cpus.items) (parts_of c.self.inside.layout c.make_move.new.memory c.make_move.new.cpus.items)
      c.args.m.now c.make_move.result c.make_move.ensures.moves c.self.invariant.0,
  c.make_move.ensures.idle,
)
