use Rattle.std.proofs.Common.{List, sym, subst}
use Rattle.ak_pte.specs.declared.table.Pte.{Pte}
use Rattle.ak_machine.specs.Machines.{Parts, parts_of}
use Rattle.ak_machine.specs.Moves.{Moves, plainly}
use Rattle.ak_machine.proofs.Leaves.{leaf_made}
use Rattle.ak_machine.proofs.kernel.do_leaf.Goals as goal

pub returns-clause-moves : goal.returns-clause-moves
returns-clause-moves c layout cpus sound =
    let parts : Parts = parts_of layout c.args.memory.now cpus in
    let encls = c.leaf.new.self.encls in
    let e = c.leaf.ensures in
    subst (λ (t : List Pte). Moves parts c.args.m.now (plainly c.leaf.result) (record parts { encls = encls; table = t })) (sym e.table)
    (leaf_made parts c.args.m.now c.leaf.result encls c.requires.leaf (λ l state paging. e.row l state paging) e.refused
    (λ yes l state paging. e.done yes l state paging c.requires.cycles) e.rest)
