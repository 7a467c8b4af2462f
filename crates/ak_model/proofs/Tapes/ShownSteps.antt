-- All outputs that were called for were shown, but one while its call has not left: kept by each turn, entering and leaving.
use Rattle.std.proofs.Common.{◌≡◌, ℕ, zero, suc, List, [], ◌∷◌, length, refl, ap, sym, ◌∙◌, subst, arith}
use Rattle.std.specs.Prelude.{Bool, true, false, Option, Some, None, ◌==◌, if◌then◌else◌}
use Rattle.ak_core.specs.Layout.{Layout}
use Rattle.ak_core.specs.Mem.{Access}
use Rattle.ak_core.specs.declared.event.Event.{Event}
use Rattle.ak_core.specs.declared.event.Event.TheVariants.{Call as CallEvent, Miss, Trap, Break}
use Rattle.ak_core.specs.declared.moves.Exit.{Exit}
use Rattle.ak_model.specs.Paging.Histories.{History}
use Rattle.ak_model.specs.Flat.FlatRuns.{output_of_call}
use Rattle.ak_model.specs.Control.ControlState.{Phase, New, Running, Calling, Asked, Ended, Trapped, Dead, Context, Program, Enter, Probe, Finish, Guard, Leave, Reason, Interrupted, Cleared, Raised, Denied, Missed, Broke, Faulted, Saved, Control, cssa}
use Rattle.ak_model.specs.Control.OneTurn.{Turn}
use Rattle.ak_model.specs.Control.RuntimeTurn.{shown_fault, program_at_bottom, accesses, first_fault, handle, enter, finish, resume_guard, leave_call, effect, fault, unless_fault}
use Rattle.ak_model.specs.Control.EventTurn.{due, leave_program, vector_turn, event_turn}
use Rattle.ak_model.specs.Control.Runs.{turn_of, turn}
use Rattle.ak_model.specs.Control.Entering.{entered, resumed_by, interrupted_by}
use Rattle.ak_model.specs.Laws.Orderly.{ContextFits, SavedFits, NowFits, StackFits}
use Rattle.ak_model.specs.Laws.OwedAnswers.{oldest}
use Rattle.ak_model.specs.Laws.ShownOutputs.{output_in, one_more, Unshown, Pending, Lost, pending_running, unshown_by, unshown, IsShown, AreShown, TurnShows}
use Rattle.ak_model.proofs.Tapes.Calls.{oldest_saved, oldest_any}

-- the context inside is no call with an output
abbrev IsNoOutput : Option Context → Type 0
IsNoOutput now = pending_running now ≡ None

-- another context inside, where neither is one
other_now : (phase : Phase) (stack : List Saved) (now next : Option Context) → IsNoOutput now → IsNoOutput next → unshown_by phase (oldest stack now) ≡ unshown_by phase (oldest stack next)
other_now Running [] now next h k = ap Pending (h ∙ sym k)
other_now New [] now next h k = refl
other_now Calling [] now next h k = refl
other_now (Asked c) [] now next h k = refl
other_now (Ended s) [] now next h k = refl
other_now (Trapped v) [] now next h k = refl
other_now Dead [] now next h k = refl
other_now phase (saved ∷ older) now next h k = ap (unshown_by phase) (oldest_any saved older now next)

-- one may be lost
lost : (o : Unshown) (called shown : List ℕ) → IsShown o called shown → IsShown Lost called shown
lost (Pending output) called shown h = (output, h)
lost Lost called shown h = h

bottom : (stack : List Saved) → pending_running (oldest (program_at_bottom stack) None) ≡ None
bottom [] = refl
bottom (saved ∷ []) = refl
bottom (saved ∷ next ∷ older) = top saved next older (bottom (next ∷ older))
  where
    top : (saved next : Saved) (older : List Saved) → pending_running (oldest (program_at_bottom (next ∷ older)) None) ≡ None →
        pending_running (oldest (saved ∷ program_at_bottom (next ∷ older)) None) ≡ None
    top saved next [] h = h
    top saved next (last ∷ older) h = h

-- with nothing saved
empty : (stack : List Saved) → length stack ≡ 0 → stack ≡ []
empty [] h = refl
empty (saved ∷ older) h = absurd (omega arith)

module _ (layout : Layout) (control : Control) (called shown : List ℕ) (old : AreShown called shown control) where
  -- ---- Steps of the runtime

  -- where nothing is called for or shown
  same : (next : Control) → unshown control ≡ unshown next → AreShown called shown next
  same next o = record { are = subst (λ x. IsShown x called shown) o old.are }

  gone : IsNoOutput control.now → AreShown called shown (record control { now = None })
  gone h = same (record control { now = None }) (other_now control.phase control.stack control.now None h refl)

  dies : (next : Control) → unshown next ≡ Lost → AreShown called shown next
  dies next o = record { are = subst (λ x. IsShown x called shown) (sym o) (lost (unshown control) called shown old.are) }

  -- either of two turns
  either : (b : Bool) (t u : Turn) → TurnShows called shown t → TurnShows called shown u → TurnShows called shown (if b then t else u)
  either true t u h k = h
  either false t u h k = k

  -- the program stands alone in the stack
  alone : (older : List Saved) (reason : Reason) → control.stack ≡ record { context = Program; reason = reason } ∷ older → length older ≡ 0 → control.phase ≡ Running → unshown control ≡ Pending None
  alone [] reason e none running = ap (λ s. unshown_by control.phase (oldest s control.now)) e ∙ ap (λ p. unshown_by p (Some Program)) running
  alone (next ∷ older) reason e none running = absurd (omega arith)

  by_reason : (k : ℕ) (inner : Context) (reason : Reason) (older : List Saved) → control.stack ≡ record { context = inner; reason = reason } ∷ older → IsNoOutput control.now →
      SavedFits layout control.phase control.queue (length older) (record { context = inner; reason = reason }) →
      TurnShows called shown (handle layout control k (record { context = inner; reason = reason } ∷ older))
  by_reason k inner Interrupted older e h fits = gone h
  by_reason k inner Cleared older e h fits = gone h
  by_reason k inner Broke older e h fits = dies _ refl
  by_reason k inner (Faulted t) older e h fits = either (k == 2) _ _ (dies _ refl) (dies _ refl)
  by_reason k inner (Raised v) older e h fits =
      let inside = subst (λ c. ContextFits layout control.phase (length older) c) fits.reason fits.context in
      same _ (alone older (Raised v) (e ∙ ap (λ (c : Context). record { context = c; reason = Raised v } ∷ older) fits.reason) inside.0 inside.1)
  by_reason k inner Denied older e h fits =
      let inside = subst (λ c. ContextFits layout control.phase (length older) c) fits.reason fits.context in
      same _ (alone older Denied (e ∙ ap (λ (c : Context). record { context = c; reason = Denied } ∷ older) fits.reason) inside.0 inside.1)
  by_reason k inner (Missed c) older e h fits =
      let is = fits.reason in
      let inside = subst (λ c. ContextFits layout control.phase (length older) c) is.0 fits.context in
      same _ (alone older (Missed c) (e ∙ ap (λ (x : Context). record { context = x; reason = Missed c } ∷ older) is.0) inside.0 inside.1)

  handled : (k : ℕ) (stack : List Saved) → control.stack ≡ stack → IsNoOutput control.now → StackFits layout control.phase control.queue stack →
      TurnShows called shown (handle layout control k stack)
  handled k [] e h fits = gone h
  handled k (saved ∷ older) e h fits = by_reason k saved.context saved.reason older e h fits.0

  module _ (fits : StackFits layout control.phase control.queue control.stack) where
    -- an entry step
    enters : (k v : ℕ) (phase : Phase) → control.phase ≡ phase → IsNoOutput control.now → k ≡ length control.stack → TurnShows called shown (enter layout control k v phase)
    enters k v (Ended s) e h d = gone h
    enters k v (Trapped x) e h d = gone h
    enters k v Dead e h d = gone h
    enters k v Running e h d = handled k control.stack refl h fits
    enters zero v New e h d =
        let none = empty control.stack (sym d) in
        same _ (ap (λ p. unshown_by p (oldest control.stack control.now)) e ∙ sym (ap (λ s. unshown_by Running (oldest s (Some Program))) none))
    enters (suc k) v New e h d = handled (suc k) control.stack refl h fits
    enters zero v Calling e h d =
        let none = empty control.stack (sym d) in
        same _ (ap (λ p. unshown_by p (oldest control.stack control.now)) e ∙ sym (ap (λ s. unshown_by Running (oldest s (Some Program))) none))
    enters (suc k) v Calling e h d = handled (suc k) control.stack refl h fits
    enters zero v (Asked c) e h d = handled zero control.stack refl h fits
    enters (suc zero) v (Asked c) e h d = same _ (other_now control.phase control.stack control.now (Some (Probe 0)) h refl)
    enters (suc (suc k)) v (Asked c) e h d = handled (suc (suc k)) control.stack refl h fits

  -- a probe
  probed : (i : ℕ) (b : Bool) → IsNoOutput control.now → AreShown called shown (record control { now = if b then Some Finish else Some (Probe (suc i)) })
  probed i true h = same _ (other_now control.phase control.stack control.now (Some Finish) h refl)
  probed i false h = same _ (other_now control.phase control.stack control.now (Some (Probe (suc i))) h refl)

  -- the end of the probes
  finished : (phase : Phase) → control.phase ≡ phase → IsNoOutput control.now → TurnShows called shown (finish control phase)
  finished (Asked c) e h = same _ (ap (λ p. unshown_by p (oldest control.stack control.now)) e ∙ sym (ap Pending (bottom control.stack)))
  finished New e h = gone h
  finished Running e h = gone h
  finished Calling e h = gone h
  finished (Ended s) e h = gone h
  finished (Trapped v) e h = gone h
  finished Dead e h = gone h

  -- the guard
  guarded_on : (phase : Phase) → control.phase ≡ phase → IsNoOutput control.now → TurnShows called shown (resume_guard control phase)
  guarded_on (Asked c) e h = dies _ refl
  guarded_on (Trapped v) e h = gone h
  guarded_on New e h = gone h
  guarded_on Running e h = gone h
  guarded_on Calling e h = gone h
  guarded_on (Ended s) e h = gone h
  guarded_on Dead e h = gone h

  -- a call leaves, and shows its output if it is one
  left : (b a : ℕ) → unshown control ≡ Pending (output_of_call b a) → TurnShows called shown (leave_call control b a)
  left zero s o = same _ o
  left (suc b) a o = record { are = subst (λ x. IsShown x called shown) o old.are }

  faulted : (context : Context) (t : Access) → control.now ≡ Some context → TurnShows called shown (fault layout control context t)
  faulted context t is =
      same _ (ap (λ now. unshown_by control.phase (oldest control.stack now)) is ∙ sym (ap (unshown_by control.phase) (oldest_saved control.stack context (Faulted t))))

  running : (now : Option Context) → control.now ≡ now → length control.stack ≡ 0 → control.phase ≡ Running → unshown control ≡ Pending (pending_running now)
  running now is none phase =
      ap (λ p. unshown_by p (oldest control.stack control.now)) phase
      ∙ ap (λ s. unshown_by Running (oldest s control.now)) (empty control.stack none)
      ∙ ap (λ now. Pending (pending_running now)) is

  effects : (context : Context) → control.now ≡ Some context → StackFits layout control.phase control.queue control.stack → ContextFits layout control.phase (length control.stack) context →
      TurnShows called shown (effect layout control context)
  effects (Enter k v) is stack fits = enters stack k v control.phase refl (ap pending_running is) fits.0
  effects (Probe i) is stack fits = probed i _ (ap pending_running is)
  effects Finish is stack fits = finished control.phase refl (ap pending_running is)
  effects Guard is stack fits = guarded_on control.phase refl (ap pending_running is)
  effects (Leave b a) is stack fits = left b a (running (Some (Leave b a)) is fits.0 fits.1)
  effects Program is stack fits = old

  steps : (context : Context) (o : Option Access) → control.now ≡ Some context → StackFits layout control.phase control.queue control.stack → ContextFits layout control.phase (length control.stack) context →
      TurnShows called shown (unless_fault layout control context o)
  steps context None is stack fits = effects context is stack fits
  steps context (Some t) is stack fits = faulted context t is

  -- ---- The program

  -- the program is left, for some reason
  saves : (reason : Reason) (next : Control) → control.now ≡ Some Program → next.phase ≡ control.phase → next.stack ≡ record { context = Program; reason = reason } ∷ control.stack → next.now ≡ None → AreShown called shown next
  saves reason next is p s n =
      same next
      (ap (λ now. unshown_by control.phase (oldest control.stack now)) is
      ∙ sym (ap (λ x. unshown_by x (oldest next.stack next.now)) p ∙ ap (λ x. unshown_by control.phase (oldest x next.now)) s
      ∙ ap (λ x. unshown_by control.phase (oldest (record { context = Program; reason = reason } ∷ control.stack) x)) n ∙ ap (unshown_by control.phase) (oldest_saved control.stack Program reason)))

  vectored : (v : ℕ) → control.now ≡ Some Program → TurnShows called shown (vector_turn layout control v)
  vectored v is =
      either (v == 14) (leave_program (shown_fault layout) Denied control) (leave_program (Exit.Vector v) (Raised v) control)
      (saves Denied _ is refl refl refl) (saves (Raised v) _ is refl refl refl)

  event_turns : (o : Option Event) → control.now ≡ Some Program → length control.stack ≡ 0 → control.phase ≡ Running → TurnShows (one_more called (output_in o)) shown (event_turn layout control o)
  event_turns None is none phase = same _ refl
  event_turns (Some (CallEvent i b a)) is none phase = record {
    are =
        let all : called ≡ shown = subst (λ x. IsShown x called shown) (running (Some Program) is none phase) old.are in
        subst (λ x. IsShown x (one_more called (output_of_call b a)) shown)
        (sym (ap (λ p. unshown_by p (oldest control.stack (Some (Leave b a)))) phase ∙ ap (λ s. unshown_by Running (oldest s (Some (Leave b a)))) (empty control.stack none)))
        (ap (λ outputs. one_more outputs (output_of_call b a)) all);
  }
  event_turns (Some (Miss i c)) is none phase = saves (Missed c) _ is refl refl refl
  event_turns (Some (Break i)) is none phase = saves Broke _ is refl refl refl
  event_turns (Some (Trap i v)) is none phase = vectored v is

  -- ---- All turns

  -- what the turn in this context calls for
  abbrev pub called_now : Option Context → List ℕ
  called_now (Some Program) = one_more called (output_in (due control.count control.rest))
  called_now _ = called

  turns : (past : History) (now : Option Context) → control.now ≡ now → StackFits layout control.phase control.queue control.stack → NowFits layout control.phase control.stack now →
      TurnShows (called_now now) shown (turn_of layout past control now)
  turns past None is stack fits = old
  turns past (Some Program) is stack fits = event_turns (due control.count control.rest) is fits.0 fits.1
  turns past (Some (Enter k v)) is stack fits = steps (Enter k v) (first_fault layout past (accesses layout control (Enter k v))) is stack fits
  turns past (Some (Probe i)) is stack fits = steps (Probe i) (first_fault layout past (accesses layout control (Probe i))) is stack fits
  turns past (Some Finish) is stack fits = steps Finish (first_fault layout past (accesses layout control Finish)) is stack fits
  turns past (Some Guard) is stack fits = steps Guard (first_fault layout past (accesses layout control Guard)) is stack fits
  turns past (Some (Leave b a)) is stack fits = steps (Leave b a) (first_fault layout past (accesses layout control (Leave b a))) is stack fits

  -- a turn
  pub turn-shows : (past : History) → StackFits layout control.phase control.queue control.stack → NowFits layout control.phase control.stack control.now →
      TurnShows (called_now control.now) shown (turn layout past control)
  turn-shows past stack fits = turns past control.now refl stack fits

  -- ---- Entering, resuming and interrupting

  -- a processor enters
  pub entered-shown : (v : ℕ) → control.now ≡ None → AreShown called shown (entered control v)
  entered-shown v is = same _ (other_now control.phase control.stack control.now (Some (Enter (cssa control) v)) (ap pending_running is) refl)

  pub resumed : (stack : List Saved) → control.stack ≡ stack → control.now ≡ None → AreShown called shown (resumed_by control stack)
  resumed [] e is = old
  resumed (one ∷ older) e is =
      same _
      (ap (λ s. unshown_by control.phase (oldest s control.now)) e ∙ ap (λ now. unshown_by control.phase (oldest (one ∷ older) now)) is ∙ ap (unshown_by control.phase) (oldest_saved older one.context one.reason))

  -- a processor resumes
  pub resumed-shown : control.now ≡ None → AreShown called shown (resumed_by control control.stack)
  resumed-shown is = resumed control.stack refl is

  interrupted : (now : Option Context) → control.now ≡ now → AreShown called shown (interrupted_by control now)
  interrupted None is = old
  interrupted (Some context) is =
      same _
      (ap (λ now. unshown_by control.phase (oldest control.stack now)) is ∙ sym (ap (unshown_by control.phase) (oldest_saved control.stack context Interrupted)))

  -- a processor is interrupted
  pub interrupted-shown : AreShown called shown (interrupted_by control control.now)
  interrupted-shown = interrupted control.now refl
