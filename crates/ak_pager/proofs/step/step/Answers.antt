use Rattle.std.proofs.Common.{◌≡◌, ℕ, List, [], ◌∷◌, ◌++◌, ap, sym, subst, ◌∙◌}
use Rattle.std.specs.Prelude.{Bool, true, Some}
use Rattle.std.proofs.lemmas.Result.{err_from_is_err_and}
use Rattle.ak_core.specs.Mem.{Access, access_to}
use Rattle.ak_core.specs.declared.page.Kind.TheVariants.{Write, Exec}
use Rattle.ak_core.specs.declared.registers.Regs.{Regs}
use Rattle.ak_model.specs.Flat.Instructions.{reg_of, rdi, rsi}
use Rattle.ak_model.specs.Paging.Pages.{code_page, state_page}
use Rattle.ak_pager.specs.Rows.{Reads, guard_row, leave_row}
use Rattle.ak_pager.specs.StepsTo.{Performs}
use Rattle.ak_pager.specs.Effects.{AreReads, AreSomeReads, first_accesses}
use Rattle.ak_pager.proofs.StepsDone.{code_faulted, state_faulted, reads_any, guard_steps, leave_steps}
use Rattle.ak_pager.proofs.step.step.Goals as goal

pub returns-in_err-touch_exec-clause-steps : goal.returns-in_err-touch_exec-clause-steps
returns-in_err-touch_exec-clause-steps g c =
    let layout = c.args.layout.now in
    let regs = c.args.regs.now in
    let holds = g.M.Mem.holds c.args.mem.now in
    let old = g.M.Mem.bytes c.args.mem.now in
    let touch = c.in_err-touch_exec.ensures.touch in
    let p = err_from_is_err_and c.from_residual.result c.from_residual.ensures.1 in
    rw (p.1, p.2)
    (code_faulted layout regs holds old (g.M.Mem.bytes c.touch_exec.new.self) (g.M.Mem.granted c.touch_exec.new.self) (g.M.Mem.refused c.touch_exec.new.self) c.in_err-touch_exec.field-0.0
    (touch.same ∙ c.requires.begun) (touch.err ∙ ap (λ (q : ℕ). access_to q Exec) c.code.ensures.page) (touch.refused_is ∙ ap Some (sym touch.err)) c.touch_exec.ensures.bytes)

pub returns-in_err-touch_write-clause-steps : goal.returns-in_err-touch_write-clause-steps
returns-in_err-touch_write-clause-steps g c =
    let layout = c.args.layout.now in
    let regs = c.args.regs.now in
    let holds = g.M.Mem.holds c.args.mem.now in
    let old = g.M.Mem.bytes c.args.mem.now in
    let ran = c.in_ok-touch_exec.ensures.touch in
    let touch = c.in_err-touch_write.ensures.touch in
    let p = err_from_is_err_and c.from_residual-in_err-touch_write.result c.from_residual-in_err-touch_write.ensures.1 in
    rw (p.1, p.2)
    (state_faulted layout regs holds old (g.M.Mem.bytes c.touch_write.new.self) (g.M.Mem.granted c.touch_write.new.self) (g.M.Mem.refused c.touch_write.new.self) c.in_err-touch_write.field-0.0
    (touch.same ∙ ran.ok ∙ ap (λ (l : List Access). l ++ access_to c.code.result.0 Exec ∷ []) c.requires.begun ∙ ap (λ (q : ℕ). access_to q Exec ∷ []) c.code.ensures.page)
    (touch.err ∙ ap (λ (q : ℕ). access_to q Write) c.state.ensures) (touch.refused_is ∙ ap Some (sym touch.err)) (c.touch_write.ensures.bytes ∙ c.touch_exec.ensures.bytes))

pub guard-requires-clause-reads : goal.guard-requires-clause-reads
guard-requires-clause-reads g c =
    let layout = c.args.layout.now in
    let regs = c.args.regs.now in
    let holds = g.M.Mem.holds c.args.mem.now in
    let old = g.M.Mem.bytes c.args.mem.now in
    let wrote = c.in_ok-touch_write.ensures.touch in
    let ran = c.in_ok-touch_exec.ensures.touch in
    let bytes : g.M.Mem.bytes c.touch_write.new.self ≡ old = c.touch_write.ensures.bytes ∙ c.touch_exec.ensures.bytes in
    let held : holds (state_page layout) ≡ true =
    ap (λ (p : ℕ). holds p) (sym c.state.ensures) ∙ ap (λ (f : ℕ → Bool). f c.state.result.0) (sym c.touch_exec.ensures.holds) ∙ wrote.held in
    subst (λ (b : ℕ → List ℕ). AreSomeReads layout 0 b) (sym bytes) (reads_any layout c.code.ensures.valid regs holds old held c.requires.some)

pub leave-requires-clause-reads : goal.leave-requires-clause-reads
leave-requires-clause-reads g c =
    let layout = c.args.layout.now in
    let regs = c.args.regs.now in
    let holds = g.M.Mem.holds c.args.mem.now in
    let old = g.M.Mem.bytes c.args.mem.now in
    let wrote = c.in_ok-touch_write.ensures.touch in
    let ran = c.in_ok-touch_exec.ensures.touch in
    let bytes : g.M.Mem.bytes c.touch_write.new.self ≡ old = c.touch_write.ensures.bytes ∙ c.touch_exec.ensures.bytes in
    let held : holds (state_page layout) ≡ true =
    ap (λ (p : ℕ). holds p) (sym c.state.ensures) ∙ ap (λ (f : ℕ → Bool). f c.state.result.0) (sym c.touch_exec.ensures.holds) ∙ wrote.held in
    subst (λ (b : ℕ → List ℕ). AreSomeReads layout 0 b) (sym bytes) (reads_any layout c.code.ensures.valid regs holds old held c.requires.some)

pub returns-then-regs-address_of-2-clause-steps : goal.returns-then-regs-address_of-2-clause-steps
returns-then-regs-address_of-2-clause-steps g c =
    let layout = c.args.layout.now in
    let regs = c.args.regs.now in
    let holds = g.M.Mem.holds c.args.mem.now in
    let old = g.M.Mem.bytes c.args.mem.now in
    let wrote = c.in_ok-touch_write.ensures.touch in
    let ran = c.in_ok-touch_exec.ensures.touch in
    let bytes : g.M.Mem.bytes c.touch_write.new.self ≡ old = c.touch_write.ensures.bytes ∙ c.touch_exec.ensures.bytes in
    let held : holds (state_page layout) ≡ true =
    ap (λ (p : ℕ). holds p) (sym c.state.ensures) ∙ ap (λ (f : ℕ → Bool). f c.state.result.0) (sym c.touch_exec.ensures.holds) ∙ wrote.held in
    let begun : g.M.Mem.granted c.touch_write.new.self ≡ first_accesses layout =
    wrote.ok ∙ ap (λ (l : List Access). l ++ access_to c.state.result.0 Write ∷ []) (ran.ok ∙ ap (λ (l : List Access). l ++ access_to c.code.result.0 Exec ∷ []) c.requires.begun)
    ∙ ap (λ (p : ℕ). access_to p Exec ∷ access_to c.state.result.0 Write ∷ []) c.code.ensures.page ∙ ap (λ (p : ℕ). access_to (code_page layout) Exec ∷ access_to p Write ∷ []) c.state.ensures in
    let none = wrote.unrefused ∙ ran.unrefused ∙ c.requires.unrefused in
    let stays = c.guard.ensures.stays in
    let new = g.M.Mem.bytes c.guard.new.mem in
    guard_steps layout c.code.ensures.valid regs holds old new (g.M.Mem.granted c.guard.new.mem) (g.M.Mem.refused c.guard.new.mem) c.guard.result regs (stays.refused ∙ none) held
    (c.if-regs-address_of-2.true ∙ c.address_of-else-regs-address_of.ensures.address) (stays.granted ∙ begun)
    (subst (λ (b : ℕ → List ℕ). (r : Reads) (x : Regs) → AreReads layout 0 b r → Performs layout (guard_row r r.phase) b new c.guard.result x) bytes c.guard.ensures.row)

pub returns-then-regs-address_of-3-clause-steps : goal.returns-then-regs-address_of-3-clause-steps
returns-then-regs-address_of-3-clause-steps g c =
    let layout = c.args.layout.now in
    let regs = c.args.regs.now in
    let holds = g.M.Mem.holds c.args.mem.now in
    let old = g.M.Mem.bytes c.args.mem.now in
    let wrote = c.in_ok-touch_write.ensures.touch in
    let ran = c.in_ok-touch_exec.ensures.touch in
    let bytes : g.M.Mem.bytes c.touch_write.new.self ≡ old = c.touch_write.ensures.bytes ∙ c.touch_exec.ensures.bytes in
    let held : holds (state_page layout) ≡ true =
    ap (λ (p : ℕ). holds p) (sym c.state.ensures) ∙ ap (λ (f : ℕ → Bool). f c.state.result.0) (sym c.touch_exec.ensures.holds) ∙ wrote.held in
    let begun : g.M.Mem.granted c.touch_write.new.self ≡ first_accesses layout =
    wrote.ok ∙ ap (λ (l : List Access). l ++ access_to c.state.result.0 Write ∷ []) (ran.ok ∙ ap (λ (l : List Access). l ++ access_to c.code.result.0 Exec ∷ []) c.requires.begun)
    ∙ ap (λ (p : ℕ). access_to p Exec ∷ access_to c.state.result.0 Write ∷ []) c.code.ensures.page ∙ ap (λ (p : ℕ). access_to (code_page layout) Exec ∷ access_to p Write ∷ []) c.state.ensures in
    let none = wrote.unrefused ∙ ran.unrefused ∙ c.requires.unrefused in
    let stays = c.leave.ensures.stays in
    let new = g.M.Mem.bytes c.leave.new.mem in
    leave_steps layout c.code.ensures.valid regs holds old new (g.M.Mem.granted c.leave.new.mem) (g.M.Mem.refused c.leave.new.mem) c.leave.result regs (stays.refused ∙ none) held
    (c.if-regs-address_of-3.true ∙ c.address_of-else-regs-address_of-2.ensures.address) (stays.granted ∙ begun)
    (subst (λ (b : ℕ → List ℕ). (r : Reads) (x : Regs) → AreReads layout 0 b r → Performs layout (leave_row layout r regs (reg_of regs rdi) (reg_of regs rsi)) b new c.leave.result x) bytes c.leave.ensures.row)
