use Rattle.std.proofs.Common.{◌≡◌, ◌<◌, ◌==◌, ◌&&◌, not, ℕ, length, refl, sym, ap, ◌∙◌, subst, arith}
use Rattle.std.proofs.lemmas.Option.{slice_get_read}
use Rattle.std.specs.List.{list_any}
use Rattle.std.specs.Prelude.{Some, slice_get}
use Rattle.ak_model.specs.Paging.Pages.{tcs_page}
use Rattle.ak_encls.specs.Enclave.{Enclave}
use Rattle.ak_enclu.specs.Passing.{HasFewSaved}
use Rattle.ak_enclu.specs.declared.cpu.Cpu.{Cpu}
use Rattle.ak_machine.specs.Machines.{Parts, parts_of}
use Rattle.ak_machine.proofs.Enterings.{no_resume, resume_all}
use Rattle.ak_machine.proofs.Held.{few_saved}
use Rattle.ak_machine.proofs.entering.resume.Goals as goal

pub returns-then-lp-lps-clause-moves : goal.returns-then-lp-lps-clause-moves
returns-then-lp-lps-clause-moves c =
    no_resume (parts_of c.args.layout.now c.args.memory.now c.args.cpus.now.items) c.requires.sound c.args.lp (omega (arith, c.if-lp-lps.true, c.lps.ensures))

pub eresume-requires-clause-saved : goal.eresume-requires-clause-saved
eresume-requires-clause-saved c =
    let parts : Parts = parts_of c.args.layout.now c.args.memory.now c.args.cpus.now.items in
    let tcs : c.tcs_page.result ≡ tcs_page c.args.layout.now = c.tcs_page.ensures ∙ ap length c.perms.ensures.perms in
    subst (λ (e : Enclave). HasFewSaved e c.tcs_page.result) (sym c.forget.ensures.encls)
    (subst (λ (p : ℕ). HasFewSaved c.args.memory.now.encls p) (sym tcs) (few_saved parts c.requires.sound))

pub returns-clause-moves : goal.returns-clause-moves
returns-clause-moves c =
    let parts : Parts = parts_of c.args.layout.now c.args.memory.now c.args.cpus.now.items in
    let many = c.requires.sound.each in
    let low : c.args.lp.0 < length c.args.cpus.now.items = omega (arith, c.if-lp-lps.false, c.lps.ensures, many) in
    let at : slice_get c.args.cpus.now.items c.args.lp.0 ≡ Some c.index_mut.result.now =
    slice_get_read c.args.cpus.now.items (length c.args.cpus.now.items) c.args.lp.0 c.index_mut.result.now refl low c.index_mut.ensures.value in
    let tcs : c.tcs_page.result ≡ tcs_page c.args.layout.now = c.tcs_page.ensures ∙ ap length c.perms.ensures.perms in
    let e = c.eresume.ensures in
    resume_all parts c.requires.sound c.args.lp c.index_mut.result.now at c.is_other_inside-busy.result (c.is_other_inside-busy.ensures ∙ ap (list_any (λ (x : Cpu). x.inside && not (x.lp.0 == c.args.lp.0))) c.deref.ensures.value)
    c.forget.new.self c.forget.ensures.encls c.forget.ensures.table c.eresume.result c.eresume.new.cpu c.eresume.new.leaves c.tcs_page.result tcs
    (record { row = e.row; same_cpu = e.refused_cpu; same_encls = e.refused_leaves; cpu_is = e.cpu; to = e.leaves })
