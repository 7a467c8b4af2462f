use Rattle.std.proofs.Common.{◌≡◌, ℕ, zero, suc, refl, ap, sym, subst, ◌∙◌}
use Rattle.ak_core.specs.Layout.{Layout}
use Rattle.ak_model.specs.Control.ControlState.{Phase, New, Running, Calling, Asked}
use Rattle.ak_model.specs.Flat.Instructions.{reg_of, rdi}
use Rattle.ak_pager.specs.declared.state.Phase.{Phase as CodePhase}
use Rattle.ak_pager.specs.Rows.{Reads, Row, entry_row, saved_row}
use Rattle.ak_pager.specs.StepsTo.{Performs}
use Rattle.ak_pager.specs.Remembered.{phase_of}
use Rattle.ak_pager.proofs.entry.enter_by.Goals.{in_default-via-in-New+else-saved-eq0, in_default-via-in-Calling+else-saved-eq0-2, in_default-via-in-Asked+else-saved-eq1, in_default-via-in_default}
use Rattle.ak_pager.proofs.entry.enter_by.Goals as goal

new_saved : (layout : Layout) (r : Reads) (k v : ℕ) → (k ≡ 0 → ⊥) → entry_row layout r k v New ≡ saved_row layout r k r.saved.cause
new_saved layout r zero v some = absurd (some refl)
new_saved layout r (suc k) v some = refl

calling_saved : (layout : Layout) (r : Reads) (k v : ℕ) → (k ≡ 0 → ⊥) → entry_row layout r k v Calling ≡ saved_row layout r k r.saved.cause
calling_saved layout r zero v some = absurd (some refl)
calling_saved layout r (suc k) v some = refl

asked_saved : (layout : Layout) (r : Reads) (k v x : ℕ) → (k ≡ 1 → ⊥) → entry_row layout r k v (Asked x) ≡ saved_row layout r k r.saved.cause
asked_saved layout r zero v x other = refl
asked_saved layout r (suc zero) v x other = absurd (other refl)
asked_saved layout r (suc (suc k)) v x other = refl

running_saved : (layout : Layout) (r : Reads) (k v : ℕ) → entry_row layout r k v Running ≡ saved_row layout r k r.saved.cause
running_saved layout r zero v = refl
running_saved layout r (suc k) v = refl

-- no other phase is left
only_running : (read : CodePhase) → (read ≡ CodePhase.New → ⊥) → (read ≡ CodePhase.Calling → ⊥) → ((x : ℕ) → read ≡ CodePhase.Asked x → ⊥) → ((x : ℕ) → read ≡ CodePhase.Ended x → ⊥) →
    ((x : ℕ) → read ≡ CodePhase.Trapped x → ⊥) → (read ≡ CodePhase.Dead → ⊥) → Running ≡ phase_of read
only_running CodePhase.New n c a e t d = absurd (n refl)
only_running CodePhase.Running n c a e t d = refl
only_running CodePhase.Calling n c a e t d = absurd (c refl)
only_running (CodePhase.Asked x) n c a e t d = absurd (a x refl)
only_running (CodePhase.Ended x) n c a e t d = absurd (e x refl)
only_running (CodePhase.Trapped x) n c a e t d = absurd (t x refl)
only_running CodePhase.Dead n c a e t d = absurd (d refl)

pub returns-in_default-clause-row : goal.returns-in_default-clause-row
returns-in_default-clause-row g c r reads =
    let layout = c.args.layout.now in
    let v = reg_of c.args.regs.now rdi in
    let k = c.args.saved in
    let old = g.M.Mem.bytes c.args.mem.now in
    let new = g.M.Mem.bytes c.handle.new.mem in
    let P : Row → Type 0 = λ row. Performs layout row old new c.handle.result c.args.regs.now in
    let Q : Phase → Type 0 = λ p. P (entry_row layout r k v p) in
    let read = c.load_phase.ensures r.phase reads.phase in
    let row = c.handle.ensures.row r c.args.regs.now reads in
    elim c.in_default.branch [
      | in_default-via-in-New+else-saved-eq0 w ↦ subst Q (ap phase_of (sym w.in-New.is) ∙ read) (subst P (sym (new_saved layout r k v w.if-saved-eq0.false)) row)
      | in_default-via-in-Calling+else-saved-eq0-2 w ↦ subst Q (ap phase_of (sym w.in-Calling.is) ∙ read) (subst P (sym (calling_saved layout r k v w.if-saved-eq0-2.false)) row)
      | in_default-via-in-Asked+else-saved-eq1 w ↦ subst Q (ap phase_of (sym w.in-Asked.is) ∙ read) (subst P (sym (asked_saved layout r k v w.in-Asked.field-0 w.if-saved-eq1.false)) row)
      | in_default-via-in_default w ↦ subst Q (only_running c.load_phase.result w.in_default.not-New w.in_default.not-Calling w.in_default.not-Asked w.in_default.not-Ended w.in_default.not-Trapped w.in_default.not-Dead ∙ read) (subst P (sym (running_saved layout r k v)) row)
    ]
