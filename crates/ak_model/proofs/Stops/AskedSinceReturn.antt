-- While what came back from an ask is not past the probes, the same cluster is asked for at each moment since the last entering at
-- CSSA 1, and is to be mapped.
use Rattle.std.proofs.Common.{◌≡◌, ℕ, zero, suc, ◌+◌, ◌-◌, ◌≤◌, List, [], ◌∷◌, length, drop, arith, refl, ap, sym, ◌∙◌, subst, length-drop}
use Rattle.std.specs.Prelude.{Bool, true, false, ◌||◌, if◌then◌else◌, Option, Some, None, is_some, ◌==◌}
use Rattle.std.proofs.lemmas.Bool.{or_from, or_parts, or_right, false_from_ne_true}
use Rattle.ak_core.specs.Layout.{Layout, IsValid}
use Rattle.ak_core.specs.declared.event.Event.{Event}
use Rattle.ak_core.specs.declared.moves.Exit.{Exit}
use Rattle.ak_core.specs.declared.moves.Move.{Move}
use Rattle.ak_model.specs.Paging.Pages.{pages_of}
use Rattle.ak_model.specs.Paging.Histories.{History}
use Rattle.ak_model.specs.Paging.Inside.{someone_inside}
use Rattle.ak_model.specs.Control.ControlState.{Asked, Context, Program, Enter, Probe, Finish, Guard, Leave, Reason, Interrupted, Cleared, Raised, Denied, Missed, Broke, Faulted, Saved, Control, cssa, is_asked}
use Rattle.ak_model.specs.Control.Entering.{entered, resumed_by, interrupted_by}
use Rattle.ak_model.specs.Control.Trace.{Moment, trace}
use Rattle.ak_model.specs.Tapes.ProgramTurns.{program_turns}
use Rattle.ak_model.specs.Sound.Forced.{queue_by}
use Rattle.ak_model.specs.Laws.Premises.{MissesFit}
use Rattle.ak_model.specs.Kernels.Counted.{saved_count}
use Rattle.ak_model.specs.Stops.Blame.{enters_at_one, returned_at}
use Rattle.ak_model.specs.Kernels.KernelRules.{entered_since_ask, is_finish_now, is_past_probes, probes_done}
use Rattle.ak_model.specs.Stops.MovesBefore.{changed}
use Rattle.ak_model.specs.Laws.Orderly.{refuses_by, is_live, IsOrderly}
use Rattle.ak_model.proofs.Control.OrderlyMoments.{trace_is_orderly}
use Rattle.ak_model.proofs.Control.OneInsideTrace.{counts_right}
use Rattle.ak_model.proofs.Control.RunEnds.{Since, probes_now}
use Rattle.ak_model.proofs.Stops.LeavingTurns.{stack_probes, stack_past, has_probing}
use Rattle.ak_model.proofs.Paging.Readings.{Reading}
use Rattle.ak_model.proofs.Control.OrderlyMoves.{not_refused}
use Rattle.ak_model.proofs.Control.MoveCases.{Finished, Holds}
use Rattle.ak_model.proofs.Stops.StoppingMove.{did_next}
use Rattle.ak_model.proofs.Stops.LastFaultTrace.{since_probing, trace_kept}

module _ (layout : Layout) where
  -- the cluster is asked for, something came back for it, and the probes are not over
  pub record Open (c : ℕ) (control : Control) : Type 0 where
    pub asked : control.phase ≡ Asked c
    pub probing : has_probing control ≡ true
    pub unfinished : is_finish_now control.now ≡ false
    pub unpast : stack_past (length (pages_of layout c) - 1) control.stack ≡ false

  module _ (c : ℕ) (so_far : List ℕ) (past : History) (control : Control) (orderly : IsOrderly layout so_far (someone_inside layout past) control) (counts : saved_count past ≡ cssa control) where
    abbrev last : ℕ
    last = length (pages_of layout c) - 1

    none_finish : (now : Option Context) → is_some now ≡ false → is_finish_now now ≡ false
    none_finish None h = refl
    none_finish (Some context) h = absurd (cc)

    -- ---- It was so before a move that does not come back

    entered_open : (v : ℕ) → is_some control.now ≡ false → (saved_count past == 1) ≡ false → Open c (entered control v) → Open c control
    entered_open v n one h =
        let other : (cssa control == 1) ≡ false = subst (λ k. (k == 1) ≡ false) counts one in
        let saved : stack_probes control.stack ≡ true = rw other at h.probing in
        record { asked = h.asked; probing = or_right (probes_now control.now) _ saved; unfinished = none_finish control.now n; unpast = h.unpast }

    -- a context is past the probes by itself, where its reason does not refuse to resume
    same_past : (context : Context) (reason : Reason) → refuses_by reason ≡ false → is_finish_now (Some context) ≡ false → is_past_probes last context reason ≡ false
    same_past Finish reason r f = absurd (cc)
    same_past (Probe i) Interrupted r f = refl
    same_past (Probe i) Cleared r f = refl
    same_past (Probe i) (Raised v) r f = absurd (cc)
    same_past (Probe i) Denied r f = absurd (cc)
    same_past (Probe i) (Missed x) r f = absurd (cc)
    same_past (Probe i) Broke r f = absurd (cc)
    same_past (Probe i) (Faulted t) r f = absurd (cc)
    same_past Program reason r f = refl
    same_past (Enter k v) reason r f = refl
    same_past Guard reason r f = refl
    same_past (Leave b a) reason r f = refl

    resumed_open : (saved : Saved) (rest : List Saved) → is_some control.now ≡ false → control.pending ≡ false → control.stack ≡ saved ∷ rest → Open c (resumed_by control (saved ∷ rest)) → Open c control
    resumed_open saved rest n p e h =
        let reason = not_refused layout so_far (someone_inside layout past) control saved rest orderly e p n (ap is_live h.asked) in
        let here : is_past_probes last saved.context saved.reason ≡ false = same_past saved.context saved.reason reason h.unfinished in
        record {
          asked = h.asked;
          probing = or_right (probes_now control.now) _ (subst (λ s. stack_probes s ≡ true) (sym e) h.probing);
          unfinished = none_finish control.now n;
          unpast = subst (λ s. stack_past last s ≡ false) (sym e) (or_from (is_past_probes last saved.context saved.reason) (stack_past last rest) here h.unpast);
        }

    unfinished_by : (context : Context) (reason : Reason) → is_past_probes last context reason ≡ false → is_finish_now (Some context) ≡ false
    unfinished_by Finish reason h = absurd (cc)
    unfinished_by Program reason h = refl
    unfinished_by (Enter k v) reason h = refl
    unfinished_by (Probe i) reason h = refl
    unfinished_by Guard reason h = refl
    unfinished_by (Leave b a) reason h = refl

    interrupted_open : (now : Option Context) → control.now ≡ now → Open c (interrupted_by control now) → Open c control
    interrupted_open None e h = h
    interrupted_open (Some context) e h =
        let parts = or_parts (is_past_probes last context Interrupted) (stack_past last control.stack) h.unpast in
        record {
          asked = h.asked;
          probing = subst (λ now. (probes_now now || stack_probes control.stack) ≡ true) (sym e) h.probing;
          unfinished = ap is_finish_now e ∙ unfinished_by context Interrupted parts.0;
          unpast = parts.1;
        }

    went_open : (next : Control) → Since control next → Open c next → Open c control
    went_open next s h =
        let asked : is_asked next.phase ≡ true = ap is_asked h.asked in
        let start = since_probing control next s asked h.probing in
        record {
          asked = sym (s.asked asked) ∙ h.asked;
          probing = start.1;
          unfinished = false_from_ne_true (is_finish_now control.now) (λ f. let x = s.finish f in let y = h.unfinished in cc);
          unpast = subst (λ stack. stack_past last stack ≡ false) s.stack h.unpast;
        }

    exited_open : (exit : Exit) (next : Control) → Finished layout past control exit next → Open c next → Open c control
    exited_open exit next f h =
        let asked : is_asked next.phase ≡ true = ap is_asked h.asked in
        let saved : stack_probes next.stack ≡ true = subst (λ now. (probes_now now || stack_probes next.stack) ≡ true) f.left.out h.probing in
        let left = f.left.probing asked saved in
        let not_past = left.3 last h.unpast in
        went_open f.before f.since (record { asked = sym left.0 ∙ h.asked; probing = left.1; unfinished = not_past.0; unpast = not_past.1 })

    -- before a move that does not come back
    abbrev Before : Reading → Control → Type 0
    Before change next = change.at_one (saved_count past) ≡ false → Open c next → Open c control

    open_before : Holds layout past control Before
    open_before = record {
      quiet = λ one h. h;
      entered = λ lp v n. entered_open v n;
      resumed = λ lp saved rest n p e one h. resumed_open saved rest n p e h;
      interrupted = λ lp one h. interrupted_open control.now refl h;
      went = λ next s one h. went_open next s h;
      exited = λ lp exit next f one h. exited_open exit next f h;
    }

-- ---- Whole traces

module _ (layout : Layout) (valid : IsValid layout) (tape : List Event) (misses : MissesFit layout [] tape) where
  -- at a moment: the cluster is asked for, an entering stands after the ask, and the probes are not over
  pub record IsOpen (c : ℕ) (moment : Moment) : Type 0 where
    pub asked : moment.control.phase ≡ Asked c
    pub entered : entered_since_ask moment.past ≡ true
    pub undone : probes_done layout c moment.control ≡ false

  abbrev At : List Move → Moment
  At moves = trace layout tape moves

  open_now : (c : ℕ) (moves : List Move) → Open layout c (At moves).control → IsOpen c (At moves)
  open_now c moves h = record {
    asked = h.asked;
    entered = ((trace_kept layout tape valid misses moves).probing (ap is_asked h.asked) h.probing).1;
    undone = or_from (is_finish_now (At moves).control.now) _ h.unfinished h.unpast;
  }

  older_open : (c d : ℕ) (m : Move) (moves : List Move) (one : Bool) → enters_at_one (changed layout (At moves) m) (saved_count (At moves).past) ≡ one → (if one then length (At moves).past + 1 else returned_at (At moves).past) ≤ length (drop d (At moves).past) → Open layout c (At (m ∷ moves)).control → (Open layout c (At moves).control → returned_at (At moves).past ≤ length (drop d (At moves).past) → IsOpen c (At (drop d moves))) → IsOpen c (At (drop d moves))
  older_open c d m moves true e l h go = absurd (let short = length-drop d (At moves).past in omega arith)
  older_open c d m moves false e l h go =
      let so_far : List ℕ = queue_by layout (program_turns layout tape moves) in
      let orderly = trace_is_orderly layout valid tape misses moves in
      let counts = (counts_right layout tape moves).saved_is in
      go (did_next layout valid tape misses m moves (Before layout c so_far (At moves).past (At moves).control orderly counts) (open_before layout c so_far (At moves).past (At moves).control orderly counts) e h) l

  -- it is so at each moment since the last entering at CSSA 1
  pub open_since : (c : ℕ) (moves : List Move) (d : ℕ) → Open layout c (At moves).control → returned_at (At moves).past ≤ length (drop d (At moves).past) → IsOpen c (At (drop d moves))
  open_since c moves zero h l = open_now c moves h
  open_since c [] (suc d) h l = open_now c [] h
  open_since c (m ∷ moves) (suc d) h l =
      older_open c d m moves (enters_at_one (changed layout (At moves) m) (saved_count (At moves).past)) refl l h (open_since c moves d)
