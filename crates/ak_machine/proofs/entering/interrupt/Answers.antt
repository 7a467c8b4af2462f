use Rattle.std.proofs.Common.{◌≡◌, ◌≤◌, ◌<◌, true, length, refl, sym, ap, ◌∙◌, subst, arith}
use Rattle.std.proofs.lemmas.Option.{same_Some, slice_get_read}
use Rattle.std.specs.Prelude.{Some, slice_get}
use Rattle.ak_epcm.specs.Entries.{entry_at, is_of_page}
use Rattle.ak_ssa.specs.SavedRegisters.{AreRegs}
use Rattle.ak_ssa.specs.declared.cause.Why.{Why}
use Rattle.ak_encls.specs.Enclave.{Enclave, frame_at}
use Rattle.ak_enclu.specs.Passing.{ExitsTo}
use Rattle.ak_enclu.specs.TcsBytes.{saved_of}
use Rattle.ak_enclu.specs.declared.cpu.Cpu.{Cpu}
use Rattle.ak_machine.specs.Machines.{Parts, parts_of}
use Rattle.ak_machine.proofs.Held.{area_held, held_apart, held_few, tcs_held}
use Rattle.ak_machine.proofs.Interrupts.{interrupt_all}
use Rattle.ak_machine.proofs.Runs.{no_interrupt, outside_interrupt}
use Rattle.ak_machine.proofs.entering.interrupt.Goals as goal

pub returns-then-lp-lps-clause-moves : goal.returns-then-lp-lps-clause-moves
returns-then-lp-lps-clause-moves c =
    no_interrupt (parts_of c.args.layout.now c.args.memory.now c.args.cpus.now.items) c.requires.sound c.args.lp (omega (arith, c.if-lp-lps.true, c.lps.ensures))

pub returns-then-not-index-clause-moves : goal.returns-then-not-index-clause-moves
returns-then-not-index-clause-moves c =
    let parts : Parts = parts_of c.args.layout.now c.args.memory.now c.args.cpus.now.items in
    let many = c.requires.sound.each in
    let low : c.args.lp.0 < length c.args.cpus.now.items = omega (arith, c.if-lp-lps.false, c.lps.ensures, many) in
    let at : slice_get c.args.cpus.now.items c.args.lp.0 ≡ Some c.index.result.now =
    slice_get_read c.args.cpus.now.items (length c.args.cpus.now.items) c.args.lp.0 c.index.result.now refl low c.index.ensures in
    outside_interrupt parts c.requires.sound c.args.lp c.index.result.now at c.if-not-index.true

pub aex-requires-clause-tcs : goal.aex-requires-clause-tcs
aex-requires-clause-tcs c =
    let parts : Parts = parts_of c.args.layout.now c.args.memory.now c.args.cpus.now.items in
    let many = c.requires.sound.each in
    let low : c.args.lp.0 < length c.args.cpus.now.items = omega (arith, c.if-lp-lps.false, c.lps.ensures, many) in
    let at : slice_get c.args.cpus.now.items c.args.lp.0 ≡ Some c.index_mut.result.now =
    slice_get_read c.args.cpus.now.items (length c.args.cpus.now.items) c.args.lp.0 c.index_mut.result.now refl low c.index_mut.ensures.value in
    let seen : slice_get c.args.cpus.now.items c.args.lp.0 ≡ Some c.index.result.now =
    slice_get_read c.args.cpus.now.items (length c.args.cpus.now.items) c.args.lp.0 c.index.result.now refl low c.index.ensures in
    let same : c.index_mut.result.now ≡ c.index.result.now = same_Some c.index_mut.result.now c.index.result.now (sym at ∙ seen) in
    let within : c.index_mut.result.now.inside ≡ true = ap (λ (x : Cpu). x.inside) same ∙ c.if-not-index.false in
    ap (λ (e : Enclave). is_of_page (entry_at e.entries c.index_mut.result.now.tcs.0)) c.forget.ensures.encls
    ∙ tcs_held parts c.requires.sound c.args.lp c.index_mut.result.now at within

pub aex-requires-clause-area : goal.aex-requires-clause-area
aex-requires-clause-area c =
    let parts : Parts = parts_of c.args.layout.now c.args.memory.now c.args.cpus.now.items in
    let many = c.requires.sound.each in
    let low : c.args.lp.0 < length c.args.cpus.now.items = omega (arith, c.if-lp-lps.false, c.lps.ensures, many) in
    let at : slice_get c.args.cpus.now.items c.args.lp.0 ≡ Some c.index_mut.result.now =
    slice_get_read c.args.cpus.now.items (length c.args.cpus.now.items) c.args.lp.0 c.index_mut.result.now refl low c.index_mut.ensures.value in
    let seen : slice_get c.args.cpus.now.items c.args.lp.0 ≡ Some c.index.result.now =
    slice_get_read c.args.cpus.now.items (length c.args.cpus.now.items) c.args.lp.0 c.index.result.now refl low c.index.ensures in
    let same : c.index_mut.result.now ≡ c.index.result.now = same_Some c.index_mut.result.now c.index.result.now (sym at ∙ seen) in
    let within : c.index_mut.result.now.inside ≡ true = ap (λ (x : Cpu). x.inside) same ∙ c.if-not-index.false in
    ap (λ (e : Enclave). is_of_page (entry_at e.entries c.index_mut.result.now.ssa.0)) c.forget.ensures.encls
    ∙ area_held parts c.requires.sound c.args.lp c.index_mut.result.now at within

pub aex-requires-clause-apart : goal.aex-requires-clause-apart
aex-requires-clause-apart c =
    let parts : Parts = parts_of c.args.layout.now c.args.memory.now c.args.cpus.now.items in
    let many = c.requires.sound.each in
    let low : c.args.lp.0 < length c.args.cpus.now.items = omega (arith, c.if-lp-lps.false, c.lps.ensures, many) in
    let at : slice_get c.args.cpus.now.items c.args.lp.0 ≡ Some c.index_mut.result.now =
    slice_get_read c.args.cpus.now.items (length c.args.cpus.now.items) c.args.lp.0 c.index_mut.result.now refl low c.index_mut.ensures.value in
    let seen : slice_get c.args.cpus.now.items c.args.lp.0 ≡ Some c.index.result.now =
    slice_get_read c.args.cpus.now.items (length c.args.cpus.now.items) c.args.lp.0 c.index.result.now refl low c.index.ensures in
    let same : c.index_mut.result.now ≡ c.index.result.now = same_Some c.index_mut.result.now c.index.result.now (sym at ∙ seen) in
    let within : c.index_mut.result.now.inside ≡ true = ap (λ (x : Cpu). x.inside) same ∙ c.if-not-index.false in
    held_apart parts c.requires.sound c.args.lp c.index_mut.result.now at within

pub aex-requires-clause-saved : goal.aex-requires-clause-saved
aex-requires-clause-saved c =
    let parts : Parts = parts_of c.args.layout.now c.args.memory.now c.args.cpus.now.items in
    let many = c.requires.sound.each in
    let low : c.args.lp.0 < length c.args.cpus.now.items = omega (arith, c.if-lp-lps.false, c.lps.ensures, many) in
    let at : slice_get c.args.cpus.now.items c.args.lp.0 ≡ Some c.index_mut.result.now =
    slice_get_read c.args.cpus.now.items (length c.args.cpus.now.items) c.args.lp.0 c.index_mut.result.now refl low c.index_mut.ensures.value in
    let seen : slice_get c.args.cpus.now.items c.args.lp.0 ≡ Some c.index.result.now =
    slice_get_read c.args.cpus.now.items (length c.args.cpus.now.items) c.args.lp.0 c.index.result.now refl low c.index.ensures in
    let same : c.index_mut.result.now ≡ c.index.result.now = same_Some c.index_mut.result.now c.index.result.now (sym at ∙ seen) in
    let within : c.index_mut.result.now.inside ≡ true = ap (λ (x : Cpu). x.inside) same ∙ c.if-not-index.false in
    subst (λ (e : Enclave). saved_of (frame_at e.frames c.index_mut.result.now.tcs.0) ≤ 2) (sym c.forget.ensures.encls)
    (held_few parts c.requires.sound c.args.lp c.index_mut.result.now at within)

pub returns-clause-moves : goal.returns-clause-moves
returns-clause-moves c =
    let parts : Parts = parts_of c.args.layout.now c.args.memory.now c.args.cpus.now.items in
    let many = c.requires.sound.each in
    let low : c.args.lp.0 < length c.args.cpus.now.items = omega (arith, c.if-lp-lps.false, c.lps.ensures, many) in
    let at : slice_get c.args.cpus.now.items c.args.lp.0 ≡ Some c.index_mut.result.now =
    slice_get_read c.args.cpus.now.items (length c.args.cpus.now.items) c.args.lp.0 c.index_mut.result.now refl low c.index_mut.ensures.value in
    let seen : slice_get c.args.cpus.now.items c.args.lp.0 ≡ Some c.index.result.now =
    slice_get_read c.args.cpus.now.items (length c.args.cpus.now.items) c.args.lp.0 c.index.result.now refl low c.index.ensures in
    let same : c.index_mut.result.now ≡ c.index.result.now = same_Some c.index_mut.result.now c.index.result.now (sym at ∙ seen) in
    let within : c.index_mut.result.now.inside ≡ true = ap (λ (x : Cpu). x.inside) same ∙ c.if-not-index.false in
    let regs : c.index-2.result.now ≡ c.index_mut.result.now = same_Some c.index-2.result.now c.index_mut.result.now
    (sym (slice_get_read c.args.cpus.now.items (length c.args.cpus.now.items) c.args.lp.0 c.index-2.result.now refl low c.index-2.ensures) ∙ at) in
    let words : AreRegs c.index-2.result.now.regs = record { sixteen = c.are_registers.ensures.sixteen; words = c.are_registers.ensures.words; rip = c.are_registers.ensures.rip } in
    interrupt_all parts c.requires.sound c.args.lp c.index_mut.result.now at within (subst (λ (x : Cpu). AreRegs x.regs) regs words) c.aex.new.leaves
    (subst (λ (e : Enclave). ExitsTo c.index_mut.result.now Why.Interrupt e c.aex.new.leaves) c.forget.ensures.encls c.aex.ensures.leaves)
    c.forget.new.self.table c.forget.ensures.table c.aex.new.cpu c.aex.ensures.cpu
