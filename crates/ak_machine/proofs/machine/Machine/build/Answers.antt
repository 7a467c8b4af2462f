use Rattle.std.proofs.Common.{List}
use Rattle.ak_build.specs.declared.building.Built.{Built}
use Rattle.ak_enclu.specs.declared.cpu.Cpu.{Cpu}
use Rattle.ak_machine.proofs.Builds.{all_outside, built_here, new_processors, sound_here}
use Rattle.ak_machine.proofs.machine.Machine.build.Goals as goal

pub invariant_of-result : goal.invariant_of-result
invariant_of-result c =
    let cpus : List Cpu = c.in-Ok-processors.cpus.items in
    let b : Built = c.in-Ok.built in (
      sound_here c.args.image.now c.args.frames c.args.lps b cpus c.in-Ok-processors.ensures (c.in-Ok.ensures.built (new_processors cpus) (all_outside cpus))
          c.in-Ok.built.layout c.new.result.encls c.new.result.table c.in-Ok.ensures.layout c.new.ensures.encls c.new.ensures.table c.base-base.ensures.valid,
      c.new.ensures.tlb,
    )

pub returns-clause-built : goal.returns-clause-built
returns-clause-built c =
    let cpus : List Cpu = c.in-Ok-processors.cpus.items in
    let b : Built = c.in-Ok.built in
    built_here c.args.image.now c.args.frames c.args.lps b cpus c.in-Ok-processors.ensures (c.in-Ok.ensures.built (new_processors cpus) (all_outside cpus))
    c.in-Ok.built.layout c.new.result.encls c.new.result.table c.in-Ok.ensures.layout c.new.ensures.encls c.new.ensures.table
