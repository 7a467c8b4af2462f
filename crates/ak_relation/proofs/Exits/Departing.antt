-- The laws of the control state after a turn in which the program is left with an event: by a vector, a denied access, a miss or a
-- break.
use Rattle.std.proofs.Common.{◌≡◌, ℕ, ◌+◌, List, [], ◌∷◌, length, refl, ap, sym, ◌∙◌, subst, arith}
use Rattle.std.proofs.lemmas.Bool.{eqb-false}
use Rattle.std.specs.Prelude.{Bool, true, false, ◌||◌, not, Option, Some, None, is_some, ◌==◌, if◌then◌else◌}
use Rattle.ak_core.specs.Layout.{Layout}
use Rattle.ak_core.specs.declared.page.Lp.{Lp}
use Rattle.ak_core.specs.declared.event.Event.{Event}
use Rattle.ak_core.specs.declared.registers.Mode.{Mode}
use Rattle.ak_core.specs.declared.registers.Regs.{Regs}
use Rattle.ak_core.specs.declared.moves.Move.TheVariants.{Run}
use Rattle.ak_core.specs.declared.moves.Answer.{Answer}
use Rattle.ak_model.specs.Paging.Pages.{tcs_page, ssa_page}
use Rattle.ak_model.specs.Paging.Histories.{History}
use Rattle.ak_model.specs.Paging.Holdings.{PageFrame}
use Rattle.ak_model.specs.Paging.Frames.{held}
use Rattle.ak_model.specs.Paging.Handles.{live}
use Rattle.ak_model.specs.Paging.Inside.{since, inside, someone_inside}
use Rattle.ak_model.specs.Control.ControlState.{Running, Program, Reason, Control}
use Rattle.ak_model.specs.Control.RuntimeTurn.{save, shown_fault}
use Rattle.ak_model.specs.Tapes.ProgramTurns.{ProgramTurn}
use Rattle.ak_model.specs.Sound.Forced.{queue_by}
use Rattle.ak_model.specs.Laws.Orderly.{is_live, refuses_by, miss_of, after_miss_if, ReasonFits, IsOrderly, ServedBy}
use Rattle.ak_model.specs.Tapes.LastMoment.{FlatRuns}
use Rattle.ak_model.specs.Sound.Events.{TrapIsForced}
use Rattle.ak_model.specs.Control.EventTurn.{count_of}
use Rattle.ak_model.specs.Laws.Premises.{MissesFit}
use Rattle.ak_ssa.specs.SavedFrames.{SavedCause, area_place, HasFrame}
use Rattle.ak_relation.specs.State.MachineState.{State}
use Rattle.ak_pager.specs.Contexts.{IsNoted}
use Rattle.ak_model.specs.Laws.Calls.{calls_in, calls_by, IsAnswered}
use Rattle.ak_relation.specs.Program.Turns.{events_by, TurnStands, IsFresh, ends_by, is_last, is_last_call, IsGoing, LawsStand}
use Rattle.ak_relation.specs.Program.Reaching.{IsForcedBy, StaysBy, IsStaying}
use Rattle.ak_relation.specs.Relation.Stands.{runs_at, Stands}
use Rattle.ak_relation.specs.Premises.Saving.{missed_in, Saves}
use Rattle.ak_relation.specs.Relation.Does.{at_moment}
use Rattle.ak_model.proofs.Tapes.CallTurns.{saved}
use Rattle.ak_relation.proofs.Leaves.LeafStands.{earlier_more}
use Rattle.ak_relation.proofs.Exits.TapeGrows.{queue_past}

-- the turn
abbrev pub turn_with : ℕ → History → Control → Event → ProgramTurn
turn_with lp past control event = record { lp = lp; past = past; count = control.count; event = Some event }

-- the control state after it
abbrev pub departed : Control → Reason → Control
departed control reason = record (save control Program reason) { pending = true }

-- the program may be left with this event, for this reason, where this cause is noted
pub record MayDepart (layout : Layout) (runs : FlatRuns) (lp : ℕ) (past : History) (control : Control) (turns : List ProgramTurn) (event : Event) (reason : Reason) (cause : SavedCause) : Type 0 where
  pub at : count_of event ≡ control.count
  pub no_call : calls_in (Some event) ≡ 0
  pub refuses : refuses_by reason ≡ true
  pub miss : missed_in layout control.queue cause Mode.Program ≡ miss_of reason
  pub fits : ReasonFits layout control.phase control.queue Program reason
  pub noted : IsNoted layout control.queue Program reason cause
  pub turn_stands : TurnStands layout runs (turn_with lp past control event) turns
  pub missed : MissesFit layout (queue_past layout [] (events_by turns)) (event ∷ [])
  pub forced : TrapIsForced layout runs event
  pub served : after_miss_if layout control.queue (miss_of reason) ≡ queue_by layout (turn_with lp past control event ∷ turns)
  pub going : ends_by reason ≡ false → IsGoing control.count (events_by (turn_with lp past control event ∷ turns))
  pub evidence : (regs : Regs) (bytes : List ℕ) → HasFrame layout area_place bytes (record { regs = regs; cause = cause }) →
      IsForcedBy layout runs (turn_with lp past control event ∷ turns) (Some bytes) reason

-- a program that runs with nothing saved has not ended
pub not_ended : (control : Control) → control.now ≡ Some Program → control.phase ≡ Running → control.stack ≡ [] → (not (is_live control.phase) || is_last control.stack control.now) ≡ false
not_ended control now running nothing =
    ap (λ p. not (is_live p) || is_last control.stack control.now) running ∙ ap (λ stack. is_last stack control.now) nothing ∙ ap is_last_call now

module _ (layout : Layout) (image : List ℕ) (past : History) (control : Control) (turns : List ProgramTurn) (old new : State) (lp : Lp) (place all : ℕ)
    (event : Event) (reason : Reason) (cause : SavedCause)
    (h : Stands layout image (at_moment past control turns old)) (is : since past lp.0 ≡ Some place) (now : control.now ≡ Some Program)
    (running : control.phase ≡ Running) (nothing : control.stack ≡ []) (s : Saves layout lp.0 0 true cause old new)
    (may : MayDepart layout (runs_at layout image control) lp.0 past control turns event reason cause) where
  -- the history after the run. An exit by a vector leaves the same (`VectorExits`)
  abbrev after : History
  after = (Run lp all, Answer.Exit (shown_fault layout)) ∷ past

  -- the turns with this one
  abbrev more : List ProgramTurn
  more = turn_with lp.0 past control event ∷ turns

  -- the processor was inside
  pub stay : IsStaying layout (runs_at layout image control) past control turns lp.0 (old.processors lp.0) place
  stay = subst (StaysBy layout (runs_at layout image control) past control turns lp.0 (old.processors lp.0)) is (h.reached.stays lp.0)

  -- its TCS is in the frame that it holds
  pub in_tcs : held layout past (old.processors lp.0).tcs ≡ PageFrame (tcs_page layout)
  in_tcs = stay.tcs.frame.holds

  -- and so is the first area
  pub in_area : held layout past (old.processors lp.0).ssa ≡ PageFrame (ssa_page layout 0)
  in_area = stay.area.frame.holds ∙ ap (λ stack. PageFrame (ssa_page layout (length stack))) nothing

  -- the program had not ended
  pub going : IsGoing control.count (events_by turns)
  going = h.laws.going (not_ended control now running nothing)

  outside : (q : ℕ) (b : Bool) → (q == lp.0) ≡ b → (if b then None else since past q) ≡ None
  outside q true e = refl
  outside q false e = gone (since past q) refl
    where
      gone : (o : Option ℕ) → since past q ≡ o → o ≡ None
      gone None f = refl
      gone (Some x) f = absurd (eqb-false q lp.0 e (h.laws.present.alone q lp.0 (ap is_some f) (ap is_some is)))

  -- nobody is inside any more
  pub nobody : (q : ℕ) → since after q ≡ None
  nobody q = outside q (q == lp.0) refl

  nobody_there : (q : ℕ) → inside after q ≡ true → ⊥
  nobody_there q i = let none : inside after q ≡ false = ap is_some (nobody q) in let e : true ≡ false = sym i ∙ none in cc

  orderly : IsOrderly layout (queue_by layout more) (someone_inside layout after) (departed control reason)
  orderly = let o = h.laws.orderly in
      record {
        stack = (record { context = (ap length nothing, running); reason = may.fits }, o.stack);
        now = λ e. absurd (omega arith);
        inside = λ e. absurd (cc);
        phase = o.phase;
        queue = o.queue;
        served = subst (λ p. ServedBy layout (queue_by layout more) p control.queue (record { context = Program; reason = reason } ∷ control.stack)) (sym running)
            (subst (λ stack. ServedBy layout (queue_by layout more) Running control.queue (record { context = Program; reason = reason } ∷ stack)) (sym nothing) may.served);
        tape = subst (MissesFit layout (queue_by layout more)) (sym h.laws.taken) tt;
        pending_only = λ e. (refl, may.refuses);
        pending_if = λ n r l. refl;
        stuck = λ e p. absurd (let none : length control.stack ≡ 0 = ap length nothing in omega arith);
      }

  -- the laws of the control state
  pub laws : LawsStand layout after (departed control reason) more
  laws = record {
    orderly = orderly;
    present = record { alone = λ p q a b. absurd (nobody_there p a); context = λ p a. absurd (nobody_there p a); someone = λ a. absurd (cc) };
    fresh = subst (λ p. IsFresh p control.count control.returned more) (sym running) tt;
    taken = h.laws.taken;
    earlier = (ap is_some is, omega arith, earlier_more (length past) (length after) turns (omega arith) h.laws.earlier);
    answered = let e : calls_by more ≡ calls_by turns = ap (λ n. n + calls_by turns) may.no_call ∙ zero_more (calls_by turns) in
        subst (λ n. IsAnswered n (departed control reason)) (sym e) (saved layout control (calls_by turns) h.laws.answered reason (departed control reason) now refl refl refl refl);
    going = λ live. may.going (unended (ends_by reason) refl live);
  }
    where
      zero_more : (n : ℕ) → 0 + n ≡ n
      zero_more n = omega arith

      unended : (b : Bool) → ends_by reason ≡ b → (not (is_live control.phase) || is_last (record { context = Program; reason = reason } ∷ control.stack) None) ≡ false → ends_by reason ≡ false
      unended false e live = e
      unended true e live =
          absurd (let t : true ≡ false = sym (ap (λ p. not (is_live p) || is_last (record { context = Program; reason = reason } ∷ control.stack) None) running
          ∙ ap (λ stack. is_last (record { context = Program; reason = reason } ∷ stack) None) nothing ∙ ap (λ b. b || is_last_call (Some Program)) e) ∙ live in cc)
