-- As long as the program may go on, a fault or a break that the newest refusal to resume tells of is that of the last page fault.
use Rattle.std.proofs.Common.{◌≡◌, ℕ, List, [], ◌∷◌, refl, ap, sym, ◌∙◌, subst}
use Rattle.std.specs.Prelude.{true, false, if◌then◌else◌, Option, Some, None, is_some}
use Rattle.ak_core.specs.Layout.{Layout, IsValid}
use Rattle.ak_core.specs.declared.event.Event.{Event}
use Rattle.ak_core.specs.declared.moves.Exit.{Exit}
use Rattle.ak_core.specs.declared.moves.Exit.TheVariants.{Still, Pf}
use Rattle.ak_core.specs.declared.moves.Move.{Move}
use Rattle.ak_model.specs.Paging.Histories.{History, Exits, if_left}
use Rattle.ak_model.specs.Paging.Inside.{someone_inside}
use Rattle.ak_model.specs.Control.ControlState.{Context, Reason, Saved, Control}
use Rattle.ak_model.specs.Control.Entering.{resumed_by, interrupted_by}
use Rattle.ak_model.specs.Control.Trace.{trace}
use Rattle.ak_model.specs.Tapes.ProgramTurns.{program_turns}
use Rattle.ak_model.specs.Sound.Forced.{queue_by}
use Rattle.ak_model.specs.Laws.Premises.{MissesFit}
use Rattle.ak_model.specs.Stops.Blame.{faults, is_fault}
use Rattle.ak_model.specs.Laws.ToldFault.{newest_refusal}
use Rattle.ak_model.specs.Laws.ViolatedRule.{told_at}
use Rattle.ak_model.specs.Laws.Orderly.{is_live, IsOrderly}
use Rattle.ak_model.proofs.Paging.Readings.{Reading}
use Rattle.ak_model.proofs.Control.OrderlyMoves.{not_refused}
use Rattle.ak_model.proofs.Control.OrderlyMoments.{trace_is_orderly}
use Rattle.ak_model.proofs.Stops.ToldFaultTrace.{passed}
use Rattle.ak_model.proofs.Stops.LeavingTurns.{IsMild, Outcome, Same, Mild, Faults, Breaks}
use Rattle.ak_model.proofs.Control.MoveCases.{Finished, Holds}
use Rattle.ak_model.proofs.Stops.StoppingMove.{did_next}

-- where the program may go on, and the newest refusal tells of a fault of a step or of a break, it is this one
abbrev Told : Option Reason → Control → Type 0
Told told control = is_live control.phase ≡ true → (IsMild (newest_refusal control.stack) → ⊥) → told ≡ newest_refusal control.stack

-- what is told after a move that this is read of
abbrev After : Option Reason → Reading → Control → Type 0
After told change next = Told (if change.faults then newest_refusal next.stack else told) next

module _ (layout : Layout) (so_far : List ℕ) (past : History) (control : Control) (orderly : IsOrderly layout so_far (someone_inside layout past) control) (told : Option Reason) (old : Told told control) where
  -- the same refusal
  same : (next : Control) → newest_refusal next.stack ≡ newest_refusal control.stack → (is_live next.phase ≡ true → is_live control.phase ≡ true) → Told told next
  same next r l live grave = old (l live) (λ m. grave (subst IsMild (sym r) m)) ∙ sym r

  resumed : (saved : Saved) (rest : List Saved) → is_some control.now ≡ false → control.pending ≡ false → control.stack ≡ saved ∷ rest → Told told (resumed_by control (saved ∷ rest))
  resumed saved rest n p e live grave =
      let over : newest_refusal control.stack ≡ newest_refusal rest =
      ap newest_refusal e ∙ passed saved.reason (newest_refusal rest) (not_refused layout so_far (someone_inside layout past) control saved rest orderly e p n live) in
      old live (λ m. grave (subst IsMild over m)) ∙ over

  interrupted : (now : Option Context) → Told told (interrupted_by control now)
  interrupted None = old
  interrupted (Some context) = old

  left_faults : (lp : ℕ) (exit : Exit) → faults (if_left exit (Exits lp exit)) ≡ is_fault exit
  left_faults lp Still = refl
  left_faults lp (Pf base code) = refl
  left_faults lp _ = refl

  outcome : (exit : Exit) (next : Control) (h : Finished layout past control exit next) → is_live next.phase ≡ true → (IsMild (newest_refusal next.stack) → ⊥) → Outcome layout past h.before exit next → (if is_fault exit then newest_refusal next.stack else told) ≡ newest_refusal next.stack
  outcome exit next h live grave (Same f r q l) =
      let over : newest_refusal next.stack ≡ newest_refusal control.stack = r ∙ ap newest_refusal h.since.stack in
      subst (λ b. (if b then newest_refusal next.stack else told) ≡ newest_refusal next.stack) (sym f)
      (old (h.since.live l) (λ m. grave (subst IsMild (sym over) m)) ∙ sym over)
  outcome exit next h live grave (Mild m) = absurd (grave m)
  outcome exit next h live grave (Faults f s) = subst (λ b. (if b then newest_refusal next.stack else told) ≡ newest_refusal next.stack) (sym f) refl
  outcome exit next h live grave (Breaks f r q) = subst (λ b. (if b then newest_refusal next.stack else told) ≡ newest_refusal next.stack) (sym f) refl

  cases : Holds layout past control (After told)
  cases = record {
    quiet = old;
    entered = λ lp v n. old;
    resumed = λ lp. resumed;
    interrupted = λ lp. interrupted control.now;
    went = λ next s. same next (ap newest_refusal s.stack) s.live;
    exited = λ lp exit next h.
        subst (λ b. Told (if b then newest_refusal next.stack else told) next) (sym (left_faults lp exit)) (λ live grave. outcome exit next h live grave (h.left.refusal live));
  }

module _ (layout : Layout) (valid : IsValid layout) (tape : List Event) (misses : MissesFit layout [] tape) where
  trace_told : (moves : List Move) → Told (told_at layout tape moves) (trace layout tape moves).control
  trace_told [] = λ live grave. absurd (grave tt)
  trace_told (m ∷ moves) =
      did_next layout valid tape misses m moves (After (told_at layout tape moves))
      (cases layout (queue_by layout (program_turns layout tape moves)) (trace layout tape moves).past (trace layout tape moves).control
      (trace_is_orderly layout valid tape misses moves) (told_at layout tape moves) (trace_told moves))

  -- what the newest refusal tells of is what was saved at the last fault
  pub fault-told : (moves : List Move) (r : Reason) → is_live (trace layout tape moves).control.phase ≡ true → (IsMild (Some r) → ⊥) → newest_refusal (trace layout tape moves).control.stack ≡ Some r → told_at layout tape moves ≡ Some r
  fault-told moves r live grave e = trace_told moves live (λ m. grave (subst IsMild e m)) ∙ e
