use Rattle.ak_memory.specs.Spots.{accesses_in}
use Rattle.ak_turns.proofs.Steps.StepTold.{step_there, has_stepped}
use Rattle.ak_turns.proofs.runtime.step.Goals as goal

pub runtime_turn-turn-requires : goal.runtime_turn-turn-requires
runtime_turn-turn-requires c =
    let memory = c.args.memory.now in
    let given = c.with_cache.new.self in
    step_there c.args.layout.now c.args.cpu.now memory c.requires.runs c.requires.mode memory.distinct given.encls given.table given.tlb given.uses_cache
    c.with_cache.ensures.encls c.with_cache.ensures.table c.with_cache.ensures.uses_cache

pub returns-clause-step : goal.returns-clause-step
returns-clause-step c =
    let memory = c.args.memory.now in
    let given = c.with_cache.new.self in
    let after = c.runtime_turn-turn.new.mem in
    has_stepped c.args.layout.now c.args.cpu.now memory c.requires.runs c.requires.mode memory.distinct given.encls given.table given.tlb given.uses_cache
    c.with_cache.ensures.encls c.with_cache.ensures.table c.with_cache.ensures.uses_cache
    after.encls after.table after.tlb after.uses_cache c.runtime_turn-turn.ensures.keeps.keeps (accesses_in after.touched.items)
    after.denied c.runtime_turn-turn.result c.runtime_turn-turn.new.regs
    c.touches_follow_the_tables.ensures.granted c.touches_follow_the_tables.ensures.unwalked c.runtime_turn-turn.ensures.steps
