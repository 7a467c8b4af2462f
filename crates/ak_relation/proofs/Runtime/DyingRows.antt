-- The rows by which the enclave dies: of an unmapped page of the program it dies at an entry alone, where the newest saved frame is the
-- program's and notes the access of a break; and once it is dead it dies of nothing more.
use Rattle.std.proofs.Common.{◌≡◌, ℕ, zero, suc, refl, ap, sym, ◌∙◌, subst}
use Rattle.std.specs.Prelude.{Bool, true, false, nat_lt, ◌==◌, if◌then◌else◌}
use Rattle.ak_core.specs.Layout.{Layout}
use Rattle.ak_core.specs.Mem.{Access}
use Rattle.ak_core.specs.declared.event.StopCause.{StopCause}
use Rattle.ak_core.specs.declared.event.StopCause.TheVariants.{Unmapped, RuntimeUnmapped, FetchNotHonoured}
use Rattle.ak_core.specs.declared.registers.Mode.{Mode}
use Rattle.ak_core.specs.declared.registers.Regs.{Regs}
use Rattle.ak_model.specs.Control.ControlState.{Phase, New, Running, Calling, Asked, Ended, Trapped, Dead, Context, Program, Enter, Probe, Finish, Guard, Leave, Reason, Interrupted, Cleared, Raised, Denied, Missed, Broke, Faulted}
use Rattle.ak_pager.specs.Contexts.{reason_for}
use Rattle.ak_pager.specs.Rows.{StepEnd, GoesWith, GoesProbing, LeavesWith, DiesOf, Reads, dying, second_cause, program_row, mode_row, saved_row, entry_row, finish_row, guard_row, leave_row, row_of}
use Rattle.ak_pager.specs.StepsTo.{EndsAs}
use Rattle.ak_pager.specs.declared.turn.RtTurn.{RtTurn}
use Rattle.ak_ssa.specs.SavedFrames.{SavedCause, NoCause, ByVector, ByPage}
use Rattle.ak_model.specs.Flat.Instructions.{reg_of, rdi, rsi}

-- an outcome that is a death is that of an end that is one
pub end_is : (layout : Layout) (end : StepEnd) (outcome : RtTurn) (regs : Regs) (cause : StopCause) → EndsAs layout end outcome regs → outcome ≡ RtTurn.Dead cause → end ≡ DiesOf cause
end_is layout (GoesWith after) outcome regs cause ends e = absurd (let clash : RtTurn.Go ≡ RtTurn.Dead cause = sym ends.0 ∙ e in cc)
end_is layout (GoesProbing i) outcome regs cause ends e = absurd (let clash : RtTurn.Go ≡ RtTurn.Dead cause = sym ends.0 ∙ e in cc)
end_is layout (LeavesWith exit) outcome regs cause ends e = absurd (let clash : RtTurn.Leave exit ≡ RtTurn.Dead cause = sym ends ∙ e in cc)
end_is layout (DiesOf other) outcome regs cause ends e = let same : RtTurn.Dead other ≡ RtTurn.Dead cause = sym ends ∙ e in let causes : other ≡ cause = cc in ap DiesOf causes

-- ---- An unmapped page of the program

-- the cause that says so of an access
abbrev pub unmapped_of : Access → StopCause
unmapped_of t = Unmapped t.page t.kind

-- what such a row read: not two contexts are saved, and the frame of the newest is the program's and notes this access, of a break
pub record ReadsBreak (layout : Layout) (r : Reads) (saved : ℕ) (t : Access) : Type 0 where
  pub few : (saved == 2) ≡ false
  pub noted : r.saved.cause ≡ ByPage t
  pub mode : r.saved.regs.mode ≡ Mode.Program
  pub breaks : reason_for layout r.queue Program t ≡ Broke

module _ (layout : Layout) (r : Reads) (t : Access) where
  second : (u : Access) (b : Bool) → DiesOf (if b then FetchNotHonoured u.page u.kind else RuntimeUnmapped u.page u.kind) ≡ DiesOf (unmapped_of t) → ⊥
  second u true e = cc
  second u false e = cc

  by_reason : (u : Access) (reason : Reason) → (program_row layout r u reason).ends ≡ DiesOf (unmapped_of t) → (reason ≡ Broke) × (u ≡ t)
  by_reason u Broke e = (
    refl,
    let page : u.page ≡ t.page = cc in
        let kind : u.kind ≡ t.kind = cc in
        ap (λ p. let access : Access = record { page = p; kind = u.kind } in access) page ∙ ap (λ k. let access : Access = record { page = t.page; kind = k } in access) kind,
  )
  by_reason u Denied e = absurd (cc)
  by_reason u (Missed c) e = absurd (cc)
  by_reason u Interrupted e = absurd (cc)
  by_reason u Cleared e = absurd (cc)
  by_reason u (Raised v) e = absurd (cc)
  by_reason u (Faulted x) e = absurd (cc)

  by_mode : (k : ℕ) (u : Access) (mode : Mode) → (k == 2) ≡ false → r.saved.cause ≡ ByPage u → r.saved.regs.mode ≡ mode → (mode_row layout r u mode).ends ≡ DiesOf (unmapped_of t) →
      ReadsBreak layout r k t
  by_mode k u Mode.Runtime few noted is e = absurd (cc)
  by_mode k u Mode.Program few noted is e =
      let broke = by_reason u (reason_for layout r.queue Program u) e in
      record { few = few; noted = noted ∙ ap ByPage broke.1; mode = is; breaks = subst (λ (x : Access). reason_for layout r.queue Program x ≡ Broke) broke.1 broke.0 }

  by_count : (k : ℕ) (u : Access) (b : Bool) → (k == 2) ≡ b → r.saved.cause ≡ ByPage u →
      (if b then dying r 2 (second_cause layout u) else mode_row layout r u r.saved.regs.mode).ends ≡ DiesOf (unmapped_of t) → ReadsBreak layout r k t
  by_count k u true two noted e = absurd (second u (nat_lt u.page.0 _) e)
  by_count k u false two noted e = by_mode k u r.saved.regs.mode two noted refl e

  by_saved : (k : ℕ) (cause : SavedCause) → r.saved.cause ≡ cause → (saved_row layout r k cause).ends ≡ DiesOf (unmapped_of t) → ReadsBreak layout r k t
  by_saved k NoCause noted e = absurd (cc)
  by_saved k (ByVector v) noted e = absurd (cc)
  by_saved k (ByPage u) noted e = by_count k u (k == 2) refl noted e

  -- an entry
  pub entry_dies : (k v : ℕ) (phase : Phase) → (entry_row layout r k v phase).ends ≡ DiesOf (unmapped_of t) → ReadsBreak layout r k t
  entry_dies k v (Ended s) e = absurd (cc)
  entry_dies k v (Trapped x) e = absurd (cc)
  entry_dies k v Dead e = absurd (cc)
  entry_dies zero v New e = absurd (cc)
  entry_dies zero v Calling e = absurd (cc)
  entry_dies k v Running e = by_saved k r.saved.cause refl e
  entry_dies zero v (Asked c) e = by_saved zero r.saved.cause refl e
  entry_dies (suc k) v New e = by_saved (suc k) r.saved.cause refl e
  entry_dies (suc k) v Calling e = by_saved (suc k) r.saved.cause refl e
  entry_dies (suc zero) v (Asked c) e = absurd (cc)
  entry_dies (suc (suc k)) v (Asked c) e = by_saved (suc (suc k)) r.saved.cause refl e

  guard_never : (phase : Phase) → (guard_row r phase).ends ≡ DiesOf (unmapped_of t) → ⊥
  guard_never (Asked c) e = cc
  guard_never (Trapped x) e = cc
  guard_never New e = cc
  guard_never Running e = cc
  guard_never Calling e = cc
  guard_never (Ended s) e = cc
  guard_never Dead e = cc

-- ---- No other step

module _ (layout : Layout) (r : Reads) (cause : StopCause) where
  finish_never : (phase : Phase) → (finish_row r phase).ends ≡ DiesOf cause → ⊥
  finish_never (Asked c) e = cc
  finish_never New e = cc
  finish_never Running e = cc
  finish_never Calling e = cc
  finish_never (Ended s) e = cc
  finish_never (Trapped x) e = cc
  finish_never Dead e = cc

  leave_never : (regs : Regs) (b a : ℕ) → (leave_row layout r regs b a).ends ≡ DiesOf cause → ⊥
  leave_never regs zero a e = cc
  leave_never regs (suc b) a e = cc

  -- once dead
  pub dead_never : (regs : Regs) (context : Context) → r.phase ≡ Dead → (row_of layout r regs context).ends ≡ DiesOf cause → ⊥
  dead_never regs Program dead e = cc
  dead_never regs (Enter k v) dead e = let here : (entry_row layout r k v Dead).ends ≡ DiesOf cause = ap (λ p. (entry_row layout r k v p).ends) (sym dead) ∙ e in cc
  dead_never regs (Probe i) dead e = cc
  dead_never regs Finish dead e = finish_never r.phase e
  dead_never regs Guard dead e = let here : (guard_row r Dead).ends ≡ DiesOf cause = ap (λ p. (guard_row r p).ends) (sym dead) ∙ e in cc
  dead_never regs (Leave b a) dead e = leave_never regs (reg_of regs rdi) (reg_of regs rsi) e

-- a step of another kind than an entry does not die of an unmapped page of the program
pub record DiesAtEntry (layout : Layout) (r : Reads) (context : Context) (t : Access) : Type 0 where
  pub saved : ℕ
  pub value : ℕ
  pub entry : context ≡ Enter saved value
  pub reads : ReadsBreak layout r saved t

pub step_dies : (layout : Layout) (r : Reads) (t : Access) (regs : Regs) (context : Context) → (row_of layout r regs context).ends ≡ DiesOf (unmapped_of t) → DiesAtEntry layout r context t
step_dies layout r t regs Program e = absurd (cc)
step_dies layout r t regs (Enter k v) e = record { saved = k; value = v; entry = refl; reads = entry_dies layout r t k v r.phase e }
step_dies layout r t regs (Probe i) e = absurd (cc)
step_dies layout r t regs Finish e = absurd (finish_never layout r (unmapped_of t) r.phase e)
step_dies layout r t regs Guard e = absurd (guard_never layout r t r.phase e)
step_dies layout r t regs (Leave b a) e = absurd (leave_never layout r (unmapped_of t) regs (reg_of regs rdi) (reg_of regs rsi) e)
