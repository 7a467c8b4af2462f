use Rattle.ak_memory.specs.Granting.{in_use}
use Rattle.ak_memory.specs.Spots.{accesses_in}
use Rattle.ak_memory.proofs.Granted.{all_granted}
use Rattle.ak_memory.proofs.Cached.{all_walked}
use Rattle.ak_memory.proofs.memory.Memory.touches_follow_the_tables.Goals as goal

pub returns-clause-granted : goal.returns-clause-granted
returns-clause-granted c =
    let m = c.args.self.now in all_granted m.encls.entries m.table (in_use m.uses_cache m.tlb) m.touched.items m.spots

pub returns-clause-walked : goal.returns-clause-walked
returns-clause-walked c =
    let m = c.args.self.now in
    all_walked m.encls.entries m.table (in_use m.uses_cache m.tlb) (accesses_in m.touched.items)
    (all_granted m.encls.entries m.table (in_use m.uses_cache m.tlb) m.touched.items m.spots)
