use Rattle.std.proofs.Common.{sym, subst}
use Rattle.ak_machine.specs.declared.applied.Applied.{Applied}
use Rattle.ak_machine.specs.Machines.{Parts, parts_of}
use Rattle.ak_machine.specs.Moves.{Moves}
use Rattle.ak_machine.proofs.kernel.make_move.Goals as goal

pub returns-in_default : goal.returns-in_default
returns-in_default c =
    let before : Parts = parts_of c.args.layout.now c.args.memory.now c.args.cpus.now.items in
    let after : Parts = parts_of c.args.layout.now c.do_leaf.new.memory c.args.cpus.now.items in
    record {
      moves = subst (λ (a : Applied). Moves before c.args.m.now a after) (sym c.plainly-in_default.ensures)
          (c.do_leaf.ensures.moves c.args.layout.now c.args.cpus.now.items c.requires.sound);
      idle = c.do_leaf.ensures.idle;
    }
