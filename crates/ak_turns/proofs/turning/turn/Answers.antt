use Rattle.std.proofs.Common.{ap}
use Rattle.ak_enclu.specs.declared.cpu.Cpu.{Cpu}
use Rattle.ak_turns.proofs.Going.{runs_on}
use Rattle.ak_turns.proofs.turning.turn.Goals as goal

pub returns-in-Program-clause-runs : goal.returns-in-Program-clause-runs
returns-in-Program-clause-runs c =
    let t = c.program_turn in
    runs_on c.args.layout.now c.args.cpu.now t.new.cpu c.args.memory.now t.new.memory t.result c.requires t.ensures.turn (ap (λ (cpu : Cpu). cpu.lp) t.ensures.keeps.cpu_is)

pub returns-in-Runtime-clause-runs : goal.returns-in-Runtime-clause-runs
returns-in-Runtime-clause-runs c =
    let t = c.runtime_step in
    runs_on c.args.layout.now c.args.cpu.now t.new.cpu c.args.memory.now t.new.memory t.result c.requires t.ensures.turn (ap (λ (cpu : Cpu). cpu.lp) t.ensures.keeps.cpu_is)
