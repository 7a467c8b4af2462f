-- Every row of the runtime's table, by context and phase.
use Rattle.std.proofs.Common.{◌≡◌, ℕ, zero, suc, List, length, refl, ap, sym, ◌∙◌, subst}
use Rattle.std.proofs.lemmas.Bool.{eqb-true}
use Rattle.std.specs.Prelude.{Bool, true, false, Some, ◌==◌, if◌then◌else◌}
use Rattle.ak_core.specs.Layout.{Layout}
use Rattle.ak_core.specs.declared.page.Lp.{Lp}
use Rattle.ak_core.specs.declared.moves.Exit.{Exit}
use Rattle.ak_core.specs.declared.registers.Regs.{Regs}
use Rattle.ak_model.specs.Paging.Histories.{History}
use Rattle.ak_model.specs.Flat.Instructions.{reg_of, rdi}
use Rattle.ak_model.specs.Control.ControlState.{Phase, New, Running, Calling, Asked, Ended, Trapped, Dead, Context, Program, Enter, Probe, Finish, Guard, Leave, Control, is_asked}
use Rattle.ak_model.specs.Control.OneTurn.{Goes}
use Rattle.ak_model.specs.Control.RuntimeTurn.{asked_pages, enter, resume_guard}
use Rattle.ak_model.specs.Tapes.ProgramTurns.{ProgramTurn}
use Rattle.ak_model.specs.Laws.StepRows.{opens, guards}
use Rattle.ak_relation.specs.State.MachineState.{State}
use Rattle.ak_pager.specs.Contexts.{Gives}
use Rattle.ak_pager.specs.Rows.{Reads, guard_frame, entry_row, finish_row, guard_row, leave_row}
use Rattle.ak_pager.specs.StepsTo.{Performs, reads_of, WorksBy}
use Rattle.ak_pager.specs.declared.turn.RtTurn.{RtTurn}
use Rattle.ak_relation.specs.Relation.Does.{with_rest}
use Rattle.ak_relation.proofs.Runtime.Cases.{Case, Comes, context_fits, exits}
use Rattle.ak_relation.proofs.Runtime.RowsBegin.{starts, answers}
use Rattle.ak_relation.proofs.Runtime.RowsLeave.{ends_program, calls_out, resumed_early}
use Rattle.ak_relation.proofs.Runtime.RowsProbe.{probing, probes, finishes}
use Rattle.ak_relation.proofs.Runtime.EntryCases.{HasRegs, kept_read, only, At, Works, Goal, handled, shown_entry}

module _ (layout : Layout) (image : List ℕ) (past : History) (control : Control) (turns : List ProgramTurn) (old new : State) (lp : Lp) (outcome : RtTurn) (regs before : Regs) (all : ℕ) where
  -- an entry in this context
  abbrev AtEntry : ℕ → ℕ → Type 0
  AtEntry k v = At layout image past control turns old new lp v outcome regs before all (Enter k v)

  -- an entry with nothing saved has a row
  closed : (v : ℕ) (phase : Phase) → AtEntry 0 v → control.phase ≡ phase → opens phase ≡ false → ⊥
  closed v phase c e shut =
      let fits = context_fits layout image past control turns old new lp (Enter 0 v) outcome regs c in
      let opened = fits.2 (sym fits.0) in let clash : true ≡ false = sym opened ∙ ap opens e ∙ shut in cc

  module _ (v : ℕ) where
    -- an entry's row in its phase
    abbrev ShownIn : (k : ℕ) → AtEntry k v → Reads → Phase → Type 0
    ShownIn k c r phase = Performs layout (entry_row layout r k v phase) c.before c.after outcome regs

    in_phase : (k : ℕ) (c : AtEntry k v) → Works layout image past control turns old new lp v outcome regs before all (Enter k v) c → (phase : Phase) → control.phase ≡ phase → (r : Reads) × ShownIn k c r phase
    in_phase k c w phase e =
        let s = shown_entry layout image past control turns old new lp v outcome regs before all k c w in (s.reads, subst (ShownIn k c s.reads) e s.shown)

    -- an entry
    entries : (k : ℕ) (phase : Phase) → control.phase ≡ phase → (c : AtEntry k v) → Works layout image past control turns old new lp v outcome regs before all (Enter k v) c →
        Goal layout image past control turns old new lp v outcome regs before all (Enter k v) c
    entries k (Ended s) e c w =
        let p = in_phase k c w (Ended s) e in
        exits layout image past control turns old new lp (Enter k v) outcome regs c all (Exit.Ended s) refl refl refl (λ later. ap (enter layout (with_rest control later) k v) e) p.1
    entries k (Trapped x) e c w =
        let p = in_phase k c w (Trapped x) e in
        exits layout image past control turns old new lp (Enter k v) outcome regs c all (Exit.Trapped x) refl refl refl (λ later. ap (enter layout (with_rest control later) k v) e) p.1
    entries k Dead e c w =
        let p = in_phase k c w Dead e in
        exits layout image past control turns old new lp (Enter k v) outcome regs c all Exit.Stopped refl refl refl (λ later. ap (enter layout (with_rest control later) k v) e) p.1
    entries zero Running e c w = absurd (closed v Running c e refl)
    entries zero (Asked n) e c w = absurd (closed v (Asked n) c e refl)
    entries zero New e c w =
        let kept = kept_read layout image past control turns old new lp (Enter 0 v) outcome regs c in
        let r = reads_of layout control.phase control.queue c.before kept.frame (guard_frame layout) in
        starts layout image past control turns old new lp v outcome regs c all r refl e (subst (ShownIn 0 c r) e (w kept.frame (guard_frame layout) kept.reads tt))
    entries zero Calling e c w =
        let kept = kept_read layout image past control turns old new lp (Enter 0 v) outcome regs c in
        let r = reads_of layout control.phase control.queue c.before kept.frame (guard_frame layout) in
        answers layout image past control turns old new lp v outcome regs c all r refl e (let held = subst (λ p. HasRegs p kept.frame c.h.bytes.flat) e kept.regs in held.0)
        (subst (ShownIn 0 c r) e (w kept.frame (guard_frame layout) kept.reads tt))
    entries (suc k) New e c w = handled layout image past control turns old new lp v outcome regs before all k c w New e (λ r. refl) (λ n. refl)
    entries (suc k) Running e c w = handled layout image past control turns old new lp v outcome regs before all k c w Running e (λ r. refl) (λ n. refl)
    entries (suc k) Calling e c w = handled layout image past control turns old new lp v outcome regs before all k c w Calling e (λ r. refl) (λ n. refl)
    entries (suc zero) (Asked n) e c w =
        let p = in_phase 1 c w (Asked n) e in
        probes layout image past control turns old new lp (Enter 1 v) outcome regs c all (Probe 0) 0 refl refl refl refl (λ q. let ends = q.ends in (ends.1, ends.2))
        (λ later. ap (enter layout (with_rest control later) 1 v) e) p.1
    entries (suc (suc k)) (Asked n) e c w = handled layout image past control turns old new lp v outcome regs before all (suc k) c w (Asked n) e (λ r. refl) (λ m. refl)

  -- ---- The other steps

  -- a step in this context
  abbrev AtStep : Context → Type 0
  AtStep context = Case layout image past control turns old new lp context outcome regs

  -- what it comes to
  abbrev StepGoal : (context : Context) → AtStep context → Type 0
  StepGoal context c = Comes layout image past control turns old new lp context outcome regs c all outcome

  probe_by : (i : ℕ) (b : Bool) → (suc i == length (asked_pages layout control.phase)) ≡ b → (c : AtStep (Probe i)) → Performs layout (probing (suc i)) c.before c.after outcome regs → StepGoal (Probe i) c
  probe_by i true e c p =
      probes layout image past control turns old new lp (Probe i) outcome regs c all Finish (suc i) refl refl refl refl
      (λ q. let ends = q.ends in (ends.1, ends.2 ∙ eqb-true (suc i) (length (asked_pages layout control.phase)) e))
      (λ later. ap (λ b. Goes (record control { rest = later; now = if b then Some Finish else Some (Probe (suc i)) })) e) p
  probe_by i false e c p =
      probes layout image past control turns old new lp (Probe i) outcome regs c all (Probe (suc i)) (suc i) refl refl refl refl (λ q. let ends = q.ends in (ends.1, ends.2))
      (λ later. ap (λ b. Goes (record control { rest = later; now = if b then Some Finish else Some (Probe (suc i)) })) e) p

  finish_by : (phase : Phase) → control.phase ≡ phase → is_asked phase ≡ true → (c : AtStep Finish) (r : Reads) → r.queue ≡ control.queue → HasRegs phase r.kept c.h.bytes.flat →
      Performs layout (finish_row r phase) c.before c.after outcome regs → StepGoal Finish c
  finish_by (Asked n) e a c r same frame_is p =
      let fits = context_fits layout image past control turns old new lp Finish outcome regs c in
      let top = only control.stack fits.0 in
      finishes layout image past control turns old new lp outcome regs c all r same n e top.0 top.1 frame_is.0 frame_is.1 p
  finish_by New e a c r same frame_is p = absurd (cc)
  finish_by Running e a c r same frame_is p = absurd (cc)
  finish_by Calling e a c r same frame_is p = absurd (cc)
  finish_by (Ended s) e a c r same frame_is p = absurd (cc)
  finish_by (Trapped x) e a c r same frame_is p = absurd (cc)
  finish_by Dead e a c r same frame_is p = absurd (cc)

  guard_by : (phase : Phase) → control.phase ≡ phase → guards phase ≡ true → (c : AtStep Guard) (r : Reads) → r.queue ≡ control.queue → Performs layout (guard_row r phase) c.before c.after outcome regs → StepGoal Guard c
  guard_by (Asked n) e g c r same p = resumed_early layout image past control turns old new lp outcome regs c all r same n e p
  guard_by (Trapped x) e g c r same p =
      exits layout image past control turns old new lp Guard outcome regs c all (Exit.Trapped x) refl refl refl (λ later. ap (resume_guard (with_rest control later)) e) p
  guard_by Dead e g c r same p =
      exits layout image past control turns old new lp Guard outcome regs c all Exit.Stopped refl refl refl (λ later. ap (resume_guard (with_rest control later)) e) p
  guard_by New e g c r same p = absurd (cc)
  guard_by Running e g c r same p = absurd (cc)
  guard_by Calling e g c r same p = absurd (cc)
  guard_by (Ended s) e g c r same p = absurd (cc)

  leave_by : (b a : ℕ) (c : AtStep (Leave b a)) (r : Reads) → r.queue ≡ control.queue → Gives layout control.phase c.h.bytes.flat (Leave b a) before →
      Performs layout (leave_row layout r before b a) c.before c.after outcome regs → StepGoal (Leave b a) c
  leave_by zero a c r same gives p = ends_program layout image past control turns old new lp 0 a outcome regs before c all r same (gives.0, gives.1) refl p
  leave_by (suc n) a c r same gives p = calls_out layout image past control turns old new lp (suc n) a outcome regs before c all r same (gives.0, gives.1) n refl p

  -- any step of the runtime
  pub steps : (context : Context) (c : AtStep context) → Gives layout control.phase c.h.bytes.flat context before → WorksBy layout control context before c.before c.after outcome regs → StepGoal context c
  steps Program c gives w = absurd c.step
  steps (Enter k v) c gives w = entries v k control.phase refl c w
  steps (Probe i) c gives w =
      let kept = kept_read layout image past control turns old new lp (Probe i) outcome regs c in
      probe_by i (suc i == length (asked_pages layout control.phase)) refl c (w kept.frame (guard_frame layout) kept.reads tt)
  steps Finish c gives w =
      let kept = kept_read layout image past control turns old new lp Finish outcome regs c in
      let fits = context_fits layout image past control turns old new lp Finish outcome regs c in
      finish_by control.phase refl fits.1 c (reads_of layout control.phase control.queue c.before kept.frame (guard_frame layout)) refl kept.regs (w kept.frame (guard_frame layout) kept.reads tt)
  steps Guard c gives w =
      let kept = kept_read layout image past control turns old new lp Guard outcome regs c in
      let fits = context_fits layout image past control turns old new lp Guard outcome regs c in
      guard_by control.phase refl fits.1 c (reads_of layout control.phase control.queue c.before kept.frame (guard_frame layout)) refl (w kept.frame (guard_frame layout) kept.reads tt)
  steps (Leave b a) c gives w =
      let kept = kept_read layout image past control turns old new lp (Leave b a) outcome regs c in
      let r = reads_of layout control.phase control.queue c.before kept.frame (guard_frame layout) in
      leave_by b a c r refl gives
      (subst (λ n. Performs layout (leave_row layout r before n a) c.before c.after outcome regs) gives.2
      (subst (λ m. Performs layout (leave_row layout r before (reg_of before rdi) m) c.before c.after outcome regs) gives.3 (w kept.frame (guard_frame layout) kept.reads tt)))
