use Rattle.std.proofs.Common.{length, ap, subst, sym, ◌+◌, ◌∙◌}
use Rattle.ak_model.specs.Paging.Pages.{state_page}
use Rattle.ak_pager_tests.specs.DefinedSteps.{SaysState, phase_of}
use Rattle.ak_pager_tests.specs.TestPages.{is_held, page_of}
use Rattle.ak_pager_tests.proofs.Witnesses.{entry_step, guard_step, leave_step, probe_step}
use Rattle.ak_pager_tests.proofs.defined.is_defined.Goals as goal

pub returns-then-is_entry : goal.returns-then-is_entry
returns-then-is_entry c h =
    let layout = c.args.layout.now in
    let program = c.args.program.now in
    let items = c.args.mem.now.pages.items in
    let phase = phase_of c.in-Some-state_in.phase in
    let says : SaysState layout phase program (page_of items (state_page layout)) =
    subst (SaysState layout phase program) (c.in-Some.ensures.bytes ∙ ap (λ xs. page_of items (length xs + 4)) c.perms.ensures.perms) c.in-Some-state_in.ensures in
    let at = c.is_at.ensures c.if-is_at.true in
    let entry = c.is_entry.ensures c.if-is_entry.true in
    let saved = c.have_saved_contexts.ensures phase says.queue h in
    entry_step layout phase program c.args.regs.now (is_held (length items)) (page_of items) says at.mode saved.0 saved.1 entry.0 entry.1

pub returns-then-is_at-2 : goal.returns-then-is_at-2
returns-then-is_at-2 c h =
    let layout = c.args.layout.now in
    let program = c.args.program.now in
    let items = c.args.mem.now.pages.items in
    let phase = phase_of c.in-Some-state_in.phase in
    let says : SaysState layout phase program (page_of items (state_page layout)) =
    subst (SaysState layout phase program) (c.in-Some.ensures.bytes ∙ ap (λ xs. page_of items (length xs + 4)) c.perms.ensures.perms) c.in-Some-state_in.ensures in
    let at = c.is_at-2.ensures c.if-is_at-2.true in
    guard_step layout phase program c.args.regs.now (is_held (length items)) (page_of items) says at.mode at (sym c.guards.ensures ∙ h)

pub returns-then-is_at-3 : goal.returns-then-is_at-3
returns-then-is_at-3 c h =
    let layout = c.args.layout.now in
    let program = c.args.program.now in
    let items = c.args.mem.now.pages.items in
    let phase = phase_of c.in-Some-state_in.phase in
    let says : SaysState layout phase program (page_of items (state_page layout)) =
    subst (SaysState layout phase program) (c.in-Some.ensures.bytes ∙ ap (λ xs. page_of items (length xs + 4)) c.perms.ensures.perms) c.in-Some-state_in.ensures in
    let at = c.is_at-3.ensures c.if-is_at-3.true in
    leave_step layout phase program c.args.regs.now (is_held (length items)) (page_of items) says at.mode at (c.is_same_but_rip.ensures h)

pub returns-then-is_probe : goal.returns-then-is_probe
returns-then-is_probe c h =
    let layout = c.args.layout.now in
    let program = c.args.program.now in
    let items = c.args.mem.now.pages.items in
    let phase = phase_of c.in-Some-state_in.phase in
    let says : SaysState layout phase program (page_of items (state_page layout)) =
    subst (SaysState layout phase program) (c.in-Some.ensures.bytes ∙ ap (λ xs. page_of items (length xs + 4)) c.perms.ensures.perms) c.in-Some-state_in.ensures in
    let at = c.is_at-4.ensures c.if-is_at-4.true in
    let probe = c.is_probe.ensures c.if-is_probe.true in
    let saved = c.have_saved_contexts-then-is_probe.ensures phase says.queue h in
    probe_step layout phase program c.args.regs.now (is_held (length items)) (page_of items) says at.mode saved.0 at probe.0 probe.1
