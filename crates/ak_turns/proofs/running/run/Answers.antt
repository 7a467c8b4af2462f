use Rattle.ak_turns.proofs.CachedPages.{stays_names}
use Rattle.ak_turns.proofs.WholeRuns.{same_machine, same_run}
use Rattle.ak_turns.proofs.running.run.Goals as goal

pub swap_cache-requires : goal.swap_cache-requires
swap_cache-requires c = stays_names c.args.layout.now c.args.cpu.now c.args.memory.now.table c.args.memory.now.encls c.requires.stays

pub returns-clause-run : goal.returns-clause-run
returns-clause-run c state m =
    let first = c.swap_cache in
    let t = c.take_turns-ran in
    let last = c.swap_cache-2 in
    let before = same_machine c.args.layout.now c.args.cpu.now c.args.memory.now.table first.new.self.table c.args.memory.now.encls first.new.self.encls first.new.self.tlb state m
    first.ensures.tlb first.ensures.table first.ensures.encls in
    same_run c.args.layout.now c.args.cpu.now.lp c.args.turns state t.result t.new.cpu t.new.memory.tlb last.new.tlb t.new.memory.table last.new.self.table t.new.memory.encls last.new.self.encls
    (t.ensures.run state before) last.ensures.given last.ensures.table last.ensures.encls
