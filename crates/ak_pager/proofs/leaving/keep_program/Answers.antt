use Rattle.std.proofs.Common.{subst}
use Rattle.ak_model.specs.Paging.Pages.{state_page}
use Rattle.ak_ssa.specs.SavedFrames.{frame_bytes}
use Rattle.ak_pager.specs.Rows.{left_frame}
use Rattle.ak_pager.specs.StepsTo.{HasState}
use Rattle.ak_pager.specs.Remembered.{phase_of}
use Rattle.ak_pager.proofs.Changing.{state_alone}
use Rattle.ak_pager.proofs.leaving.keep_program.Goals as goal

pub returns-clause-changes : goal.returns-clause-changes
returns-clause-changes g c queue has =
    let layout = c.args.layout.now in
    let phase = phase_of c.args.phase in
    let frame = frame_bytes layout (left_frame c.args.regs.now) in
    let old = g.M.Mem.bytes c.args.mem.now in
    let new = g.M.Mem.bytes c.store_state.new.mem in
    let says : HasState phase queue frame (new (state_page layout)) =
    subst (λ q. HasState phase q frame (new (state_page layout))) (c.load_state-state.ensures.queue queue has)
    (subst (λ f. HasState phase c.load_state-state.result.queue f (new (state_page layout))) c.save.ensures c.store_state.ensures.state) in
    state_alone layout phase queue frame old new says c.store_state.ensures.others
