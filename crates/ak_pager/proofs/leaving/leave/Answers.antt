use Rattle.std.proofs.Common.{◌≡◌, ℕ, zero, suc, List, refl, sym, subst}
use Rattle.ak_core.specs.Layout.{Layout}
use Rattle.ak_core.specs.declared.moves.Exit.{Exit}
use Rattle.ak_core.specs.declared.registers.Regs.{Regs}
use Rattle.ak_model.specs.Control.ControlState.{Calling}
use Rattle.ak_model.specs.Flat.Instructions.{reg_of, rsi, rdi}
use Rattle.ak_ssa.specs.SavedFrames.{frame_bytes}
use Rattle.ak_pager.specs.declared.turn.RtTurn.{RtTurn}
use Rattle.ak_pager.specs.Rows.{AreasStay, LeavesWith, Reads, Row, StateSets, leave_row, left_frame}
use Rattle.ak_pager.specs.StepsTo.{Performs}
use Rattle.ak_pager.proofs.Changing.{performs}
use Rattle.ak_pager.proofs.leaving.leave.Goals as goal

pub returns-then-number-eq0-clause-row : goal.returns-then-number-eq0-clause-row
returns-then-number-eq0-clause-row g c r after reads =
    let layout = c.args.layout.now in
    let regs = c.args.regs.now in
    let a = reg_of regs rsi in
    let old = g.M.Mem.bytes c.args.mem.now in
    let new = g.M.Mem.bytes c.keep_program.new.mem in
    subst (λ (b : ℕ). Performs layout (leave_row layout r regs b a) old new (RtTurn.Leave (Exit.Ended a)) after) (sym c.if-number-eq0.true)
    (performs layout (leave_row layout r regs 0 a) old new (RtTurn.Leave (Exit.Ended a)) after refl (c.keep_program.ensures.changes r.queue reads.queue))

-- a call with another number
calls : (layout : Layout) (r : Reads) (regs : Regs) (b a : ℕ) (old new : ℕ → List ℕ) (after : Regs) → (b ≡ 0 → ⊥) →
    (let row : Row = record { state = StateSets Calling r.queue (frame_bytes layout (left_frame regs)); areas = AreasStay; ends = LeavesWith (Exit.Call b a) } in
    Performs layout row old new (RtTurn.Leave (Exit.Call b a)) after) → Performs layout (leave_row layout r regs b a) old new (RtTurn.Leave (Exit.Call b a)) after
calls layout r regs zero a old new after other h = absurd (other refl)
calls layout r regs (suc b) a old new after other h = h

pub returns-clause-row : goal.returns-clause-row
returns-clause-row g c r after reads =
    let layout = c.args.layout.now in
    let regs = c.args.regs.now in
    let b = reg_of regs rdi in
    let a = reg_of regs rsi in
    let old = g.M.Mem.bytes c.args.mem.now in
    let new = g.M.Mem.bytes c.keep_program-2.new.mem in
    calls layout r regs b a old new after c.if-number-eq0.false
    (performs layout (record { state = StateSets Calling r.queue (frame_bytes layout (left_frame regs)); areas = AreasStay; ends = LeavesWith (Exit.Call b a) }) old new (RtTurn.Leave (Exit.Call b a)) after refl
    (c.keep_program-2.ensures.changes r.queue reads.queue))
