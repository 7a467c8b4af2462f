use Rattle.std.proofs.Common.{sym, ◌∙◌, subst}
use Rattle.ak_core.specs.declared.moves.Move.TheVariants.{ReadPte}
use Rattle.ak_pte.specs.declared.table.Pte.{Pte}
use Rattle.ak_relation.specs.State.TableChanges.{pte_answer}
use Rattle.ak_walk.specs.Mappings.{mapping_of}
use Rattle.ak_machine.specs.Machines.{Parts, parts_of}
use Rattle.ak_machine.specs.Moves.{Moves, plainly}
use Rattle.ak_machine.proofs.Entries.{is_read, not_read}
use Rattle.ak_machine.proofs.kernel.read_entry.Goals as goal

pub returns-then-not-has_page : goal.returns-then-not-has_page
returns-then-not-has_page c = record {
  moves = λ cpus sound. not_read (parts_of c.args.layout.now c.args.memory.now cpus) sound c.args.p (sym c.has_page.ensures ∙ c.if-not-has_page.true);
}

pub returns : goal.returns
returns c = record {
  moves = λ cpus sound.
      let parts : Parts = parts_of c.args.layout.now c.args.memory.now cpus in
      subst (λ (e : Pte). Moves parts (ReadPte c.args.p) (plainly (pte_answer (mapping_of e))) parts) (sym c.entry-e.ensures)
      (is_read parts sound c.args.p (sym c.has_page.ensures ∙ c.if-not-has_page.false));
}
