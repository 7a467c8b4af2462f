-- What a step of the runtime asks for follows from the relation: where the registers are in the runtime's mode, the context is one of
-- its steps, and the control state is one for which the step is defined.
use Rattle.std.proofs.Common.{◌≡◌, ◌⊎◌, inl, inr, ℕ, List, [], ◌∷◌, length, arith, refl, ap, sym, ◌∙◌, subst}
use Rattle.std.specs.Prelude.{Bool, true, false, Option, Some, None, is_some}
use Rattle.std.specs.Bool.{then_some}
use Rattle.ak_core.specs.Layout.{Layout}
use Rattle.ak_core.specs.declared.registers.Mode.{Mode}
use Rattle.ak_core.specs.declared.registers.Regs.{Regs}
use Rattle.ak_model.specs.Paging.Histories.{History}
use Rattle.ak_model.specs.Paging.Inside.{inside, someone_inside}
use Rattle.ak_model.specs.Flat.FlatRuns.{Flat}
use Rattle.ak_model.specs.Control.ControlState.{Phase, New, Running, Calling, Asked, Ended, Trapped, Dead, Context, Program, Enter, Probe, Finish, Guard, Leave, Reason, Interrupted, Cleared, Raised, Denied, Missed, Broke, Faulted, Saved, Cause, Control}
use Rattle.ak_model.specs.Tapes.ProgramTurns.{ProgramTurn}
use Rattle.ak_model.specs.Sound.Forced.{queue_by}
use Rattle.ak_model.specs.Laws.StepRows.{HasRow, IsInRow}
use Rattle.ak_model.specs.Laws.Orderly.{ContextFits, NowFits, ReasonFits, StackFits, PhaseFits}
use Rattle.ak_model.proofs.Control.OrderlyTurns.{in_row}
use Rattle.ak_relation.specs.State.MachineState.{State}
use Rattle.ak_pager.specs.Contexts.{Gives, GivesNow}
use Rattle.ak_model.specs.Laws.OwedAnswers.{Owing, Settled, Owed, Unknown, owing}
use Rattle.ak_relation.specs.Program.FlatPlaces.{IsAtBy, IsAfterCall}
use Rattle.ak_relation.specs.Bytes.Pages.{CopiesStand}
use Rattle.ak_relation.specs.Premises.Leaves.{AreFewer}
use Rattle.ak_relation.specs.Relation.Stands.{copies_at, Stands}
use Rattle.ak_pager.specs.StepsTo.{IsSmall, IsReason, AreReasons, IsAskedFor, memory_of, MayStep}
use Rattle.ak_relation.specs.Premises.Works.{IsStep, IsMemory}
use Rattle.ak_relation.specs.Relation.Does.{at_moment}
use Rattle.ak_relation.proofs.Leaves.Fewer.{copies-fewer}
use Rattle.ak_relation.proofs.Flat.FlatLaws.{AreProgram, IsCall, IsProgramEnd, program_end, program_form}

-- ---- The program's registers

-- after a call
pub call_regs : (layout : Layout) (image returned : List ℕ) (count : ℕ) (flat : Flat) → (h : IsAfterCall layout image returned count flat) → IsCall h.number h.argument flat.regs
call_regs layout image returned count flat h =
    subst IsProgramEnd h.called (program_end layout h.caller (program_form layout image returned h.before _ h.reached))

-- wherever the program is
pub at_regs : (layout : Layout) (image returned : List ℕ) (count : ℕ) (flat : Flat) (o : Owing) → IsAtBy o layout image returned count flat → AreProgram flat.regs
at_regs layout image returned count flat Settled h = program_form layout image returned count _ h
at_regs layout image returned count flat Owed h = let c = call_regs layout image returned count flat h in c.program
at_regs layout image returned count flat Unknown (inl h) = program_form layout image returned count _ h
at_regs layout image returned count flat Unknown (inr h) = let c = call_regs layout image returned count flat h in c.program

-- ---- Modes

mode_clash : (r : Regs) → r.mode ≡ Mode.Program → r.mode ≡ Mode.Runtime → ⊥
mode_clash r a b = let e : Mode.Program ≡ Mode.Runtime = sym a ∙ b in cc

-- a step has the runtime's mode
pub step_mode : (layout : Layout) (phase : Phase) (flat : Flat) (context : Context) (regs : Regs) → IsStep context → Gives layout phase flat context regs → regs.mode ≡ Mode.Runtime
step_mode layout phase flat Program regs s h = absurd s
step_mode layout phase flat (Enter k v) regs s h = ap (λ r. r.mode) h
step_mode layout phase flat (Probe i) regs s h = let a = h.0 in a.mode
step_mode layout phase flat Finish regs s h = let a = h.0 in a.mode
step_mode layout phase flat Guard regs s h = h.mode
step_mode layout phase flat (Leave b a) regs s h = let e = h.0 in e.mode

-- the context inside is a step
pub record AtStep (now : Option Context) : Type 0 where
  pub context : Context
  pub is : now ≡ Some context
  pub step : IsStep context

-- the runtime's mode tells so
pub step_now : (layout : Layout) (phase : Phase) (flat : Flat) (now : Option Context) (regs : Regs) → AreProgram flat.regs → GivesNow layout phase flat now regs → is_some now ≡ true →
    regs.mode ≡ Mode.Runtime → AtStep now
step_now layout phase flat (Some Program) regs p h some mode = absurd (mode_clash regs (ap (λ r. r.mode) h ∙ p.1) mode)
step_now layout phase flat (Some (Enter k v)) regs p h some mode = record { context = Enter k v; is = refl; step = tt }
step_now layout phase flat (Some (Probe i)) regs p h some mode = record { context = Probe i; is = refl; step = tt }
step_now layout phase flat (Some Finish) regs p h some mode = record { context = Finish; is = refl; step = tt }
step_now layout phase flat (Some Guard) regs p h some mode = record { context = Guard; is = refl; step = tt }
step_now layout phase flat (Some (Leave b a)) regs p h some mode = record { context = Leave b a; is = refl; step = tt }
step_now layout phase flat None regs p h some mode = absurd (cc)

-- ---- The conditions

has_row : (layout : Layout) (control : Control) (context : Context) → IsStep context → IsInRow layout control (Some context) → HasRow layout control context
has_row layout control Program s h = absurd s
has_row layout control (Enter k v) s h = h
has_row layout control (Probe i) s h = h
has_row layout control Finish s h = h
has_row layout control Guard s h = h
has_row layout control (Leave b a) s h = h

small : (layout : Layout) (phase : Phase) (d : ℕ) (context : Context) → ContextFits layout phase d context → IsSmall context
small layout phase d (Enter k v) h = let e = h.0 in let l = h.1 in omega arith
small layout phase d Program h = tt
small layout phase d (Probe i) h = tt
small layout phase d Finish h = tt
small layout phase d Guard h = tt
small layout phase d (Leave b a) h = tt

reason : (layout : Layout) (phase : Phase) (queue : List ℕ) (context : Context) (r : Reason) → ReasonFits layout phase queue context r → IsReason context r
reason layout phase queue context Interrupted h = tt
reason layout phase queue context Cleared h = tt
reason layout phase queue context (Raised v) h = h
reason layout phase queue context Denied h = h
reason layout phase queue context Broke h = h
reason layout phase queue context (Missed c) h = h.0
reason layout phase queue context (Faulted t) h = λ e. absurd (let f = subst (λ c. ReasonFits layout phase queue c (Faulted t)) e h in f)

empty : (stack : List Saved) → length stack ≡ 0 → stack ≡ []
empty [] h = refl
empty (saved ∷ older) h = absurd (omega arith)

reasons : (layout : Layout) (phase : Phase) (queue : List ℕ) (stack : List Saved) → StackFits layout phase queue stack → AreReasons stack
reasons layout phase queue [] h = tt
reasons layout phase queue (saved ∷ older) h =
    let own = h.0 in (
      reason layout phase queue saved.context saved.reason own.reason,
      (λ e. let fits = subst (ContextFits layout phase (length older)) e own.context in empty older fits.0),
      reasons layout phase queue older h.1,
    )

asked : (layout : Layout) (queue : List ℕ) (cause : Option Cause) (phase : Phase) → PhaseFits layout queue cause phase → IsAskedFor layout queue phase
asked layout queue cause (Asked c) h = (h.0, h.1)
asked layout queue cause New h = tt
asked layout queue cause Running h = tt
asked layout queue cause Calling h = tt
asked layout queue cause (Ended s) h = tt
asked layout queue cause (Trapped v) h = tt
asked layout queue cause Dead h = tt

-- a memory has fewer copies than there are
pub fewer_memory : (layout : Layout) (past : History) (state : State) (holds : ℕ → Bool) (bytes : ℕ → List ℕ) → IsMemory layout past state holds bytes → AreFewer (memory_of holds bytes) (copies_at layout past state)
fewer_memory layout past state holds bytes m p = by (holds p) refl
  where
    by : (b : Bool) → holds p ≡ b → (then_some b (bytes p) ≡ copies_at layout past state p) ⊎ (then_some b (bytes p) ≡ None)
    by true e = inl (sym (m p e))
    by false e = inr refl

module _ (layout : Layout) (image : List ℕ) (past : History) (control : Control) (turns : List ProgramTurn) (state : State) (h : Stands layout image (at_moment past control turns state))
    (lp : ℕ) (within : inside past lp ≡ true) (holds : ℕ → Bool) (bytes : ℕ → List ℕ) (m : IsMemory layout past state holds bytes) where
  -- the registers are those of the context inside
  pub gives_now : GivesNow layout control.phase h.bytes.flat control.now (state.processors lp).regs
  gives_now = h.bytes.registers.given lp (h.tables.presence.within lp ∙ within)

  -- in the runtime's mode, the context inside is a step
  pub at_step : (state.processors lp).regs.mode ≡ Mode.Runtime → AtStep control.now
  at_step mode = step_now layout control.phase h.bytes.flat control.now (state.processors lp).regs
      (at_regs layout image control.returned control.count h.bytes.flat (owing control) h.bytes.program) gives_now (h.laws.present.context lp within) mode

  module _ (context : Context) (step : IsStep context) (now : control.now ≡ Some context) where
    -- its registers are those of the step
    pub gives : Gives layout control.phase h.bytes.flat context (state.processors lp).regs
    gives = subst (λ x. GivesNow layout control.phase h.bytes.flat x (state.processors lp).regs) now gives_now

    fewer : CopiesStand layout control.phase control.queue control.stack control.pending h.bytes.flat (memory_of holds bytes)
    fewer = copies-fewer layout (memory_of holds bytes) (copies_at layout past state) (fewer_memory layout past state holds bytes m)
        control.phase control.queue control.stack control.pending h.bytes.flat h.bytes.pages

    -- all that the step asks for
    pub may_step : MayStep layout control context h.bytes.flat (state.processors lp).regs (memory_of holds bytes)
    may_step = record {
      mode = step_mode layout control.phase h.bytes.flat context (state.processors lp).regs step gives;
      row = has_row layout control context step (subst (IsInRow layout control) now (in_row layout (queue_by layout turns) (someone_inside layout past) control h.laws.orderly));
      small = small layout control.phase (length control.stack) context (subst (NowFits layout control.phase control.stack) now h.laws.orderly.now);
      reasons = reasons layout control.phase control.queue control.stack h.laws.orderly.stack;
      distinct = h.laws.orderly.queue.distinct;
      known = h.laws.orderly.queue.known;
      asked = asked layout control.queue control.cause control.phase h.laws.orderly.phase;
      registers = gives;
      state = fewer.state;
      areas = fewer.areas;
    }
