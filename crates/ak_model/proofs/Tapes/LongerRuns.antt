-- A turn and a run over a longer tape, whose further events are not due yet.
use Rattle.std.proofs.Common.{◌≡◌, ℕ, List, refl, ◌∙◌, subst}
use Rattle.ak_core.specs.Layout.{Layout}
use Rattle.ak_core.specs.declared.event.Event.{Event}
use Rattle.ak_model.specs.Paging.Histories.{History}
use Rattle.ak_model.specs.Control.ControlState.{Control}
use Rattle.ak_model.specs.Control.OneTurn.{Turn, Goes, Leaves}
use Rattle.ak_model.specs.Control.Runs.{turn, run}
use Rattle.ak_model.specs.Laws.Premises.{IsLater}
use Rattle.ak_model.specs.Laws.LongerTapes.{with_more, turn_with_more, control_of}
use Rattle.ak_model.proofs.Tapes.StepsReadNoTape.{on_turn}
use Rattle.ak_model.proofs.Tapes.RunsOverTapes.{after, turn_ok, run_ok}
use Rattle.ak_model.proofs.Tapes.CutTraces.{Before, longer, more_ok, more_back}

same_turn : (more : List Event) (t : Turn) → on_turn (with_more more) t ≡ turn_with_more more t
same_turn more (Goes control) = refl
same_turn more (Leaves exit control) = refl

same_control : (t : Turn) → control_of t ≡ after t
same_control (Goes control) = refl
same_control (Leaves exit control) = refl

module _ (layout : Layout) (more : List Event) where
  -- a turn
  pub turn-longer : (past : History) (control : Control) → IsLater more (control_of (turn layout past control)).count → turn layout past (with_more more control) ≡ turn_with_more more (turn layout past control)
  turn-longer past control h =
      turn_ok layout (longer layout more) (Before layout more) (more_ok layout more) (more_back layout more) past control control.now
      (subst (λ (c : Control). IsLater more c.count) (same_control (turn layout past control)) h)
      ∙ same_turn more (turn layout past control)

  -- a run
  pub run-longer : (past : History) (n : ℕ) (control : Control) → IsLater more (run layout past n control).control.count → run layout past n (with_more more control) ≡ record (run layout past n control) { control = with_more more (run layout past n control).control }
  run-longer past n control h = run_ok layout (longer layout more) (Before layout more) (more_ok layout more) (more_back layout more) past n control h
