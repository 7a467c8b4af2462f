use Rattle.std.proofs.Common.{◌≡◌, ℕ, refl, ap, sym, subst, ◌∙◌}
use Rattle.ak_core.specs.declared.moves.Exit.{Exit}
use Rattle.ak_core.specs.declared.event.StopCause.{StopCause}
use Rattle.ak_pager.specs.declared.turn.RtTurn.{RtTurn}
use Rattle.ak_model.specs.Control.ControlState.{Phase, Asked, Trapped, Dead}
use Rattle.ak_pager.specs.declared.state.Phase.{Phase as CodePhase}
use Rattle.ak_pager.specs.Rows.{AreasStay, Reads, Row, guard_row, leaving}
use Rattle.ak_pager.specs.StepsTo.{Performs}
use Rattle.ak_pager.specs.Remembered.{phase_of}
use Rattle.ak_pager.proofs.Changing.{in_row, performs}
use Rattle.ak_pager.proofs.leaving.guard.Goals as goal

pub returns-in-Asked-clause-row : goal.returns-in-Asked-clause-row
returns-in-Asked-clause-row g c r regs reads =
    let layout = c.args.layout.now in
    let old = g.M.Mem.bytes c.args.mem.now in
    let new = g.M.Mem.bytes c.set_phase.new.mem in
    let is : r.phase ≡ Asked c.in-Asked.field-0 = sym (c.load_phase.ensures r.phase reads.phase) ∙ ap phase_of c.in-Asked.is in
    subst (λ (p : Phase). Performs layout (guard_row r p) old new (RtTurn.Dead StopCause.ResumedEarly) regs) (sym is)
    (performs layout (guard_row r (Asked c.in-Asked.field-0)) old new (RtTurn.Dead StopCause.ResumedEarly) regs refl (in_row layout Dead 0 r AreasStay old new reads c.set_phase.ensures.changes))

pub returns-in-Trapped-clause-row : goal.returns-in-Trapped-clause-row
returns-in-Trapped-clause-row g c r regs reads =
    let layout = c.args.layout.now in
    let old = g.M.Mem.bytes c.args.mem.now in
    let is : r.phase ≡ Trapped c.in-Trapped.vector = sym (c.load_phase.ensures r.phase reads.phase) ∙ ap phase_of c.in-Trapped.is in
    subst (λ (p : Phase). Performs layout (guard_row r p) old old (RtTurn.Leave (Exit.Trapped c.in-Trapped.vector)) regs) (sym is)
    (record { ends = refl; state = refl; areas = λ i l. refl; others = λ p differs area. refl })

-- no other phase is asked about
stopped : (r : Reads) (read : CodePhase) → ((x : ℕ) → read ≡ CodePhase.Asked x → ⊥) → ((x : ℕ) → read ≡ CodePhase.Trapped x → ⊥) → guard_row r (phase_of read) ≡ leaving Exit.Stopped
stopped r CodePhase.New a t = refl
stopped r CodePhase.Running a t = refl
stopped r CodePhase.Calling a t = refl
stopped r (CodePhase.Asked x) a t = absurd (a x refl)
stopped r (CodePhase.Ended s) a t = refl
stopped r (CodePhase.Trapped x) a t = absurd (t x refl)
stopped r CodePhase.Dead a t = refl

pub returns-in_default-clause-row : goal.returns-in_default-clause-row
returns-in_default-clause-row g c r regs reads =
    let layout = c.args.layout.now in
    let old = g.M.Mem.bytes c.args.mem.now in
    subst (λ (p : Phase). Performs layout (guard_row r p) old old (RtTurn.Leave Exit.Stopped) regs) (c.load_phase.ensures r.phase reads.phase)
    (subst (λ (row : Row). Performs layout row old old (RtTurn.Leave Exit.Stopped) regs) (sym (stopped r c.load_phase.result c.in_default.not-Asked c.in_default.not-Trapped))
    (record { ends = refl; state = refl; areas = λ i l. refl; others = λ p differs area. refl }))
