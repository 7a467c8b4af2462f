use Rattle.ak_turns.proofs.ProgramTurns.Instructed.{instructed}
use Rattle.ak_turns.proofs.instruction.instruct.Goals as goal

pub returns : goal.returns
returns c =
    let e = c.exec-turn.ensures in
    instructed c.args.layout.now c.exec-turn.result c.args.regs.now c.exec-turn.new.regs c.args.memory.now c.with_cache.new.self c.exec-turn.new.mem
    c.with_cache.ensures.encls c.with_cache.ensures.table c.with_cache.ensures.tlb c.with_cache.ensures.uses_cache
    (record {
      keeps = e.keeps;
      holds = e.holds;
      mode = e.mode;
      vector = e.vector;
      refused = e.refused;
      same_registers = e.same_registers;
      same_bytes = e.same_bytes;
      unwritten = e.unwritten;
      line_is = e.line;
    })
    c.touches_follow_the_tables.ensures.granted
