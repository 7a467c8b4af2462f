use Rattle.std.proofs.Common.{◌≡◌, ◌<◌, List, length, refl, sym, ap, ◌∙◌, subst, arith, set}
use Rattle.std.proofs.lemmas.Option.{same_Some, slice_get_read}
use Rattle.std.specs.Prelude.{Some, slice_get}
use Rattle.ak_core.specs.declared.moves.Move.TheVariants.{Run}
use Rattle.ak_pte.specs.declared.table.Pte.{Pte}
use Rattle.ak_turns.specs.WholeRuns.{RunsTo}
use Rattle.ak_enclu.specs.declared.cpu.Cpu.{Cpu}
use Rattle.ak_machine.specs.declared.applied.Applied.{Applied}
use Rattle.ak_machine.specs.Machines.{Parts, parts_of}
use Rattle.ak_machine.specs.Moves.{Moves}
use Rattle.ak_machine.proofs.Runs.{no_run, outside_run, own_low, run_applied, run_made, stays_inside}
use Rattle.ak_machine.proofs.kernel.run_processor.Goals as goal

pub returns-then-lp-lps-clause-moves : goal.returns-then-lp-lps-clause-moves
returns-then-lp-lps-clause-moves c =
    let parts : Parts = parts_of c.args.layout.now c.args.memory.now c.args.cpus.now.items in
    subst (λ (a : Applied). Moves parts (Run c.args.lp c.args.turns) a parts) (sym c.plainly.ensures)
    (no_run parts c.requires.sound c.args.lp (omega (arith, c.if-lp-lps.true, c.lps.ensures)) c.args.turns)

pub returns-then-not-index-clause-moves : goal.returns-then-not-index-clause-moves
returns-then-not-index-clause-moves c =
    let parts : Parts = parts_of c.args.layout.now c.args.memory.now c.args.cpus.now.items in
    let many = c.requires.sound.each in
    let low : c.args.lp.0 < length c.args.cpus.now.items = omega (arith, c.if-lp-lps.false, c.lps.ensures, many) in
    let at : slice_get c.args.cpus.now.items c.args.lp.0 ≡ Some c.index.result.now =
    slice_get_read c.args.cpus.now.items (length c.args.cpus.now.items) c.args.lp.0 c.index.result.now refl low c.index.ensures in
    subst (λ (a : Applied). Moves parts (Run c.args.lp c.args.turns) a parts) (sym c.plainly-then-not-index.ensures)
    (outside_run parts c.requires.sound c.args.lp c.index.result.now at c.if-not-index.true c.args.turns)

pub run-requires-clause-known : goal.run-requires-clause-known
run-requires-clause-known c =
    let parts : Parts = parts_of c.args.layout.now c.args.memory.now c.args.cpus.now.items in
    let many = c.requires.sound.each in
    let low : c.args.lp.0 < length c.args.cpus.now.items = omega (arith, c.if-lp-lps.false, c.lps.ensures, many) in
    let at : slice_get c.args.cpus.now.items c.args.lp.0 ≡ Some c.index_mut.result.now =
    slice_get_read c.args.cpus.now.items (length c.args.cpus.now.items) c.args.lp.0 c.index_mut.result.now refl low c.index_mut.ensures.value in
    own_low parts c.requires.sound c.args.lp c.index_mut.result.now at

pub run-requires-clause-stays : goal.run-requires-clause-stays
run-requires-clause-stays c =
    let parts : Parts = parts_of c.args.layout.now c.args.memory.now c.args.cpus.now.items in
    let many = c.requires.sound.each in
    let low : c.args.lp.0 < length c.args.cpus.now.items = omega (arith, c.if-lp-lps.false, c.lps.ensures, many) in
    let at : slice_get c.args.cpus.now.items c.args.lp.0 ≡ Some c.index_mut.result.now =
    slice_get_read c.args.cpus.now.items (length c.args.cpus.now.items) c.args.lp.0 c.index_mut.result.now refl low c.index_mut.ensures.value in
    let seen : slice_get c.args.cpus.now.items c.args.lp.0 ≡ Some c.index.result.now =
    slice_get_read c.args.cpus.now.items (length c.args.cpus.now.items) c.args.lp.0 c.index.result.now refl low c.index.ensures in
    let same : c.index_mut.result.now ≡ c.index.result.now = same_Some c.index_mut.result.now c.index.result.now (sym at ∙ seen) in
    stays_inside parts c.requires.sound c.args.lp c.index_mut.result.now at (ap (λ (x : Cpu). x.inside) same ∙ c.if-not-index.false)

pub returns-clause-moves : goal.returns-clause-moves
returns-clause-moves c =
    let parts : Parts = parts_of c.args.layout.now c.args.memory.now c.args.cpus.now.items in
    let many = c.requires.sound.each in
    let low : c.args.lp.0 < length c.args.cpus.now.items = omega (arith, c.if-lp-lps.false, c.lps.ensures, many) in
    let at : slice_get c.args.cpus.now.items c.args.lp.0 ≡ Some c.index_mut.result.now =
    slice_get_read c.args.cpus.now.items (length c.args.cpus.now.items) c.args.lp.0 c.index_mut.result.now refl low c.index_mut.ensures.value in
    let new = c.run.new.memory in
    let cpus = set c.args.cpus.now.items c.args.lp.0 c.run.new.cpu in
    let keeps = c.run.ensures.keeps in
    subst (λ (a : Applied). Moves parts (Run c.args.lp c.args.turns) a (parts_of c.args.layout.now new cpus)) (sym c.of_run.ensures)
    (subst (λ (t : List Pte). Moves parts (Run c.args.lp c.args.turns) (run_applied c.run.result) (record { layout = c.args.layout.now; encls = new.encls; table = t; cpus = cpus })) (sym keeps.table)
    (run_made parts c.requires.sound c.args.lp c.index_mut.result.now at c.args.turns c.run.result c.run.new.cpu c.args.memory.now new refl keeps c.run.ensures.few
    (λ state machine. subst (λ (t : List Pte). RunsTo c.args.layout.now c.index_mut.result.now.lp c.args.turns state c.run.result c.run.new.cpu t new.encls) keeps.table
    (c.run.ensures.run state machine))))
