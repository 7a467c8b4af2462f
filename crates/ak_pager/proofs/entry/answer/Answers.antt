use Rattle.std.proofs.Common.{◌≡◌, refl, ap, subst, ◌∙◌}
use Rattle.ak_core.specs.declared.registers.Regs.{Regs}
use Rattle.ak_model.specs.Control.ControlState.{Phase, Running, Calling}
use Rattle.ak_model.specs.Flat.Instructions.{reg_of, with_reg, rax, rdi}
use Rattle.ak_model.specs.Paging.Pages.{state_page}
use Rattle.ak_ssa.specs.SavedFrames.{why_of}
use Rattle.ak_pager.specs.Rows.{AreasStay, GoesWith, with_phase}
use Rattle.ak_pager.specs.StepsTo.{ReadsKept}
use Rattle.ak_pager.proofs.Changing.{in_row, performs}
use Rattle.ak_pager.proofs.entry.answer.Goals as goal

pub returns-clause-row : goal.returns-clause-row
returns-clause-row g c r reads calling =
    let layout = c.args.layout.now in
    let old = g.M.Mem.bytes c.args.mem.now in
    let new = g.M.Mem.bytes c.set_phase.new.mem in
    let v = reg_of c.args.regs.now rdi in
    let kept : ReadsKept layout Calling (old (state_page layout)) r.kept = subst (λ (p : Phase). ReadsKept layout p (old (state_page layout)) r.kept) calling reads.kept in
    let loaded : c.load.result ≡ r.kept.regs = c.load.ensures.saved r.kept.regs (why_of layout r.kept.cause) kept.1 (c.load_state-state.ensures.frame ∙ kept.0) in
    performs layout (record { state = with_phase r Running; areas = AreasStay; ends = GoesWith (with_reg r.kept.regs rax v) }) old new _ _ (refl, ap (λ (x : Regs). with_reg x rax v) loaded)
    (in_row layout Running 0 r AreasStay old new reads c.set_phase.ensures.changes)
