use Rattle.std.proofs.Common.{◌≡◌, ℕ, List, ◌++◌, ap, sym, subst, ◌∙◌}
use Rattle.ak_core.specs.Mem.{Access}
use Rattle.ak_model.specs.Flat.Instructions.{reg_of, rax, rdi}
use Rattle.ak_pager.specs.Rows.{Reads, entry_row}
use Rattle.ak_pager.specs.StepsTo.{Performs}
use Rattle.ak_pager.specs.Effects.{AreReads, AreSomeReads, area_accesses}
use Rattle.ak_model.specs.Laws.StepRows.{opens}
use Rattle.std.specs.Prelude.{true}
use Rattle.ak_pager.proofs.StepsDone.{entry_reads, entry_opens, entry_steps}
use Rattle.ak_pager.proofs.entry.enter.Goals as goal

pub enter_by-requires-clause-reads : goal.enter_by-requires-clause-reads
enter_by-requires-clause-reads g c =
    let layout = c.args.layout.now in
    let regs = c.args.regs.now in
    let touches = c.in_ok-touch_areas.ensures.touches in
    subst (λ (b : ℕ → List ℕ). AreSomeReads layout (reg_of regs rax) b) (sym c.touch_areas.ensures.bytes)
    (entry_reads layout c.requires.valid regs (g.M.Mem.holds c.args.mem.now) (g.M.Mem.bytes c.args.mem.now) c.requires.begun.held c.requires.at c.requires.some touches.held)

pub enter_by-requires-clause-opens : goal.enter_by-requires-clause-opens
enter_by-requires-clause-opens g c =
    let layout = c.args.layout.now in
    let regs = c.args.regs.now in
    subst (λ (b : ℕ → List ℕ). reg_of regs rax ≡ 0 → (r : Reads) × AreReads layout (reg_of regs rax) b r × (opens r.phase ≡ true)) (sym c.touch_areas.ensures.bytes)
    (entry_opens layout c.requires.valid regs (g.M.Mem.holds c.args.mem.now) (g.M.Mem.bytes c.args.mem.now) c.requires.begun.held c.requires.at c.requires.some)

pub returns-clause-steps : goal.returns-clause-steps
returns-clause-steps g c =
    let layout = c.args.layout.now in
    let regs = c.args.regs.now in
    let touches = c.in_ok-touch_areas.ensures.touches in
    let stays = c.enter_by.ensures.stays in
    let new = g.M.Mem.bytes c.enter_by.new.mem in
    entry_steps layout c.requires.valid regs (g.M.Mem.holds c.args.mem.now) (g.M.Mem.bytes c.args.mem.now) new (g.M.Mem.granted c.enter_by.new.mem) (g.M.Mem.refused c.enter_by.new.mem) c.enter_by.result c.enter_by.new.regs
    (stays.refused ∙ touches.unrefused) c.requires.begun.held c.requires.at
    (stays.granted ∙ touches.ok ∙ ap (λ (l : List Access). l ++ area_accesses layout (reg_of regs rax)) c.requires.begun.granted)
    (subst (λ (b : ℕ → List ℕ). (r : Reads) → AreReads layout (reg_of regs rax) b r → Performs layout (entry_row layout r (reg_of regs rax) (reg_of regs rdi) r.phase) b new c.enter_by.result c.enter_by.new.regs)
    c.touch_areas.ensures.bytes c.enter_by.ensures.row)
