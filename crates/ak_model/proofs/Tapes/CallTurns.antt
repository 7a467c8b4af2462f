-- The count of calls and values over whole turns, and over enterings and leavings.
use Rattle.std.proofs.Common.{◌≡◌, ℕ, ◌+◌, List, [], ◌∷◌, length, refl, ap, sym, ◌∙◌, subst, arith}
use Rattle.std.specs.Prelude.{Option, Some, None, ◌==◌}
use Rattle.ak_core.specs.Layout.{Layout}
use Rattle.ak_core.specs.Mem.{Access}
use Rattle.ak_core.specs.declared.event.Event.{Event}
use Rattle.ak_core.specs.declared.event.Event.TheVariants.{Call as CallEvent, Miss, Trap, Break}
use Rattle.ak_core.specs.declared.moves.Exit.{Exit}
use Rattle.ak_model.specs.Paging.Histories.{History}
use Rattle.ak_model.specs.Control.ControlState.{Running, Context, Program, Enter, Probe, Finish, Guard, Leave, Reason, Interrupted, Raised, Denied, Faulted, Missed, Broke, Saved, Control, cssa}
use Rattle.ak_model.specs.Control.OneTurn.{Turn, Goes}
use Rattle.ak_model.specs.Control.RuntimeTurn.{shown_fault, accesses, first_fault, effect, fault, unless_fault}
use Rattle.ak_model.specs.Control.EventTurn.{due, leave_program, vector_turn, event_turn}
use Rattle.ak_model.specs.Control.Runs.{turn_of, turn}
use Rattle.ak_model.specs.Control.Entering.{entered, resumed_by, interrupted_by}
use Rattle.ak_model.specs.Laws.Orderly.{ContextFits, NowFits, StackFits}
use Rattle.ak_model.specs.Laws.OwedAnswers.{Settled, Owed, oldest, owing_running, owing_by, owing}
use Rattle.ak_model.specs.Laws.Calls.{calls_in, IsReturned, IsAnswered, TurnIsAnswered, calls_now}
use Rattle.ak_model.proofs.Tapes.Calls.{oldest_saved, other_now, same, either, entered as enter_answered, empty, probed, finished, guarded_on, left}

module _ (layout : Layout) (control : Control) (calls : ℕ) (old : IsAnswered calls control) where
  -- ---- The runtime

  faulted : (context : Context) (t : Access) → control.now ≡ Some context → TurnIsAnswered calls (fault layout control context t)
  faulted context t is =
      same layout control calls old _
      (ap (λ now. owing_by control.phase (oldest control.stack now)) is ∙ sym (ap (owing_by control.phase) (oldest_saved control.stack context (Faulted t)))) refl

  leaving : (b a : ℕ) → control.now ≡ Some (Leave b a) → length control.stack ≡ 0 → control.phase ≡ Running → owing control ≡ Owed
  leaving b a is none running =
      ap (λ p. owing_by p (oldest control.stack control.now)) running
      ∙ ap (λ s. owing_by Running (oldest s control.now)) (empty layout control calls old control.stack none)
      ∙ ap owing_running is

  effects : (context : Context) → control.now ≡ Some context → StackFits layout control.phase control.queue control.stack → ContextFits layout control.phase (length control.stack) context →
      TurnIsAnswered calls (effect layout control context)
  effects (Enter k v) is stack fits = enter_answered layout control calls old stack k v control.phase refl (ap owing_running is) fits.0
  effects (Probe i) is stack fits = probed layout control calls old i _ (ap owing_running is)
  effects Finish is stack fits = finished layout control calls old control.phase refl (ap owing_running is)
  effects Guard is stack fits = guarded_on layout control calls old control.phase refl (ap owing_running is)
  effects (Leave b a) is stack fits = left layout control calls old b a (leaving b a is fits.0 fits.1)
  effects Program is stack fits = old

  steps : (context : Context) (o : Option Access) → control.now ≡ Some context → StackFits layout control.phase control.queue control.stack → ContextFits layout control.phase (length control.stack) context →
      TurnIsAnswered calls (unless_fault layout control context o)
  steps context None is stack fits = effects context is stack fits
  steps context (Some t) is stack fits = faulted context t is

  -- ---- The program

  running : control.now ≡ Some Program → length control.stack ≡ 0 → control.phase ≡ Running → calls ≡ length control.returned
  running is none phase =
      let settled : owing control ≡ Settled = ap (λ p. owing_by p (oldest control.stack control.now)) phase
      ∙ ap (λ s. owing_by Running (oldest s control.now)) (empty layout control calls old control.stack none) ∙ ap owing_running is in
      subst (λ o. IsReturned o calls (length control.returned)) settled old.returned

  -- the program is left, for some reason
  pub saved : (reason : Reason) (next : Control) → control.now ≡ Some Program → next.phase ≡ control.phase → next.stack ≡ record { context = Program; reason = reason } ∷ control.stack → next.now ≡ None →
      next.returned ≡ control.returned → IsAnswered calls next
  saved reason next is p s n r =
      same layout control calls old next
      (ap (λ now. owing_by control.phase (oldest control.stack now)) is
      ∙ sym (ap (λ x. owing_by x (oldest next.stack next.now)) p ∙ ap (λ x. owing_by control.phase (oldest x next.now)) s
      ∙ ap (λ x. owing_by control.phase (oldest (record { context = Program; reason = reason } ∷ control.stack) x)) n ∙ ap (owing_by control.phase) (oldest_saved control.stack Program reason))) r

  vectored : (v : ℕ) → control.now ≡ Some Program → TurnIsAnswered calls (vector_turn layout control v)
  vectored v is =
      either layout control calls old (v == 14) (leave_program (shown_fault layout) Denied control) (leave_program (Exit.Vector v) (Raised v) control)
      (saved Denied _ is refl refl refl refl) (saved (Raised v) _ is refl refl refl refl)

  more_turn : (t : Turn) → TurnIsAnswered calls t → TurnIsAnswered (0 + calls) t
  more_turn t h = let f : 0 + calls ≡ calls = omega arith in subst (λ n. TurnIsAnswered n t) (sym f) h

  event_turns : (o : Option Event) → control.now ≡ Some Program → length control.stack ≡ 0 → control.phase ≡ Running → TurnIsAnswered (calls_in o + calls) (event_turn layout control o)
  event_turns None is none phase = more_turn (event_turn layout control None) (same layout control calls old _ refl refl)
  event_turns (Some (CallEvent i b a)) is none phase = record {
    returned =
        let n = running is none phase in
        let owed : 1 + calls ≡ length control.returned + 1 = omega arith in
        subst (λ o. IsReturned o (1 + calls) (length control.returned))
        (sym (ap (λ p. owing_by p (oldest control.stack (Some (Leave b a)))) phase ∙ ap (λ s. owing_by Running (oldest s (Some (Leave b a)))) (empty layout control calls old control.stack none))) owed;
  }
  event_turns (Some (Miss i c)) is none phase = more_turn (event_turn layout control (Some (Miss i c))) (saved (Missed c) _ is refl refl refl refl)
  event_turns (Some (Break i)) is none phase = more_turn (event_turn layout control (Some (Break i))) (saved Broke _ is refl refl refl refl)
  event_turns (Some (Trap i v)) is none phase = more_turn (event_turn layout control (Some (Trap i v))) (vectored v is)

  -- ---- All turns

  turns : (past : History) (now : Option Context) → control.now ≡ now → StackFits layout control.phase control.queue control.stack → NowFits layout control.phase control.stack now →
      TurnIsAnswered (calls_now control now + calls) (turn_of layout past control now)
  turns past None is stack fits = more_turn (Goes control) old
  turns past (Some Program) is stack fits = event_turns (due control.count control.rest) is fits.0 fits.1
  turns past (Some (Enter k v)) is stack fits = more_turn (turn_of layout past control (Some (Enter k v))) (steps (Enter k v) (first_fault layout past (accesses layout control (Enter k v))) is stack fits)
  turns past (Some (Probe i)) is stack fits = more_turn (turn_of layout past control (Some (Probe i))) (steps (Probe i) (first_fault layout past (accesses layout control (Probe i))) is stack fits)
  turns past (Some Finish) is stack fits = more_turn (turn_of layout past control (Some Finish)) (steps Finish (first_fault layout past (accesses layout control Finish)) is stack fits)
  turns past (Some Guard) is stack fits = more_turn (turn_of layout past control (Some Guard)) (steps Guard (first_fault layout past (accesses layout control Guard)) is stack fits)
  turns past (Some (Leave b a)) is stack fits = more_turn (turn_of layout past control (Some (Leave b a))) (steps (Leave b a) (first_fault layout past (accesses layout control (Leave b a))) is stack fits)

  -- a turn keeps the count
  pub turn-answered : (past : History) → StackFits layout control.phase control.queue control.stack → NowFits layout control.phase control.stack control.now →
      TurnIsAnswered (calls_now control control.now + calls) (turn layout past control)
  turn-answered past stack fits = turns past control.now refl stack fits

  -- ---- Entering, resuming and interrupting

  -- a processor enters
  pub entered-answered : (v : ℕ) → control.now ≡ None → IsAnswered calls (entered control v)
  entered-answered v is = same layout control calls old _ (other_now control.phase control.stack control.now (Some (Enter (cssa control) v)) (ap owing_running is) refl) refl

  pub resumed : (stack : List Saved) → control.stack ≡ stack → control.now ≡ None → IsAnswered calls (resumed_by control stack)
  resumed [] e is = old
  resumed (one ∷ older) e is =
      same layout control calls old _
      (ap (λ s. owing_by control.phase (oldest s control.now)) e ∙ ap (λ now. owing_by control.phase (oldest (one ∷ older) now)) is ∙ ap (owing_by control.phase) (oldest_saved older one.context one.reason)) refl

  -- a processor resumes
  pub resumed-answered : control.now ≡ None → IsAnswered calls (resumed_by control control.stack)
  resumed-answered is = resumed control.stack refl is

  interrupted : (now : Option Context) → control.now ≡ now → IsAnswered calls (interrupted_by control now)
  interrupted None is = old
  interrupted (Some context) is =
      same layout control calls old _
      (ap (λ now. owing_by control.phase (oldest control.stack now)) is ∙ sym (ap (owing_by control.phase) (oldest_saved control.stack context Interrupted))) refl

  -- a processor is interrupted
  pub interrupted-answered : IsAnswered calls (interrupted_by control control.now)
  interrupted-answered = interrupted control.now refl
