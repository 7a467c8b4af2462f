use Rattle.std.proofs.Common.{List, sym, ◌∙◌, subst}
use Rattle.ak_core.specs.declared.moves.Answer.TheVariants.{Ok}
use Rattle.ak_core.specs.declared.moves.Move.TheVariants.{SetPte}
use Rattle.ak_pte.specs.declared.table.Pte.{Pte}
use Rattle.ak_encls.specs.Enclave.{Enclave}
use Rattle.ak_machine.specs.Machines.{Parts, parts_of}
use Rattle.ak_machine.specs.Moves.{Moves, plainly}
use Rattle.ak_machine.proofs.Entries.{is_set, not_set}
use Rattle.ak_machine.proofs.kernel.set_entry.Goals as goal

pub returns-then-not-has_page-clause-moves : goal.returns-then-not-has_page-clause-moves
returns-then-not-has_page-clause-moves c cpus sound =
    not_set (parts_of c.args.layout.now c.args.memory.now cpus) sound c.args.p c.args.e (sym c.has_page.ensures ∙ c.if-not-has_page.true)

pub returns-clause-moves : goal.returns-clause-moves
returns-clause-moves c cpus sound =
    let parts : Parts = parts_of c.args.layout.now c.args.memory.now cpus in
    let m = SetPte c.args.p c.args.e.frame c.args.e.flags in
    let e = c.set_entry.ensures in
    subst (λ (x : Enclave). Moves parts m (plainly Ok) (record parts { encls = x; table = c.set_entry.new.self.table })) (sym e.encls)
    (subst (λ (t : List Pte). Moves parts m (plainly Ok) (record parts { table = t })) (sym e.table)
    (is_set parts sound c.args.p c.args.e (sym c.has_page.ensures ∙ c.if-not-has_page.false)))
