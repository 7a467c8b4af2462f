-- The stop of a machine's moves, by the outcomes of their last steps of the runtime: what a journal keeps to be stopped rightly.
use Rattle.std.specs.Prelude.{◌≡◌, ℕ, List, ◌∷◌, Option, Some, None, ◌==◌, if◌then◌else◌}
use Rattle.ak_core.specs.Layout.{Layout}
use Rattle.ak_core.specs.Journal.{Journal, first_stop}
use Rattle.ak_core.specs.declared.event.Stop.{Stop}
use Rattle.ak_core.specs.declared.event.StopCause.TheVariants.{Stuck}
use Rattle.ak_model.specs.Paging.Histories.{History}
use Rattle.ak_model.specs.Kernels.Counted.{saved_count}
use Rattle.ak_model.specs.Sound.BreaksAndStop.{stop_for}
use Rattle.ak_pager.specs.declared.turn.RtTurn.{RtTurn}
use Rattle.ak_relation.specs.State.MachineState.{State}
use Rattle.ak_relation.specs.Relation.NamedMoves.{AreNamedMoves}

-- the stop that the outcome of a move comes to, blamed by the history before the move: the enclave dies of a cause, or is stuck where a
-- step faults with two contexts saved
abbrev pub stop_by : Layout → History → RtTurn → Option Stop
stop_by layout past RtTurn.Go = None
stop_by layout past (RtTurn.Leave exit) = None
stop_by layout past (RtTurn.Dead cause) = Some (stop_for layout past cause)
stop_by layout past (RtTurn.Faulted t) = if saved_count past == 2 then Some (stop_for layout past (Stuck t.page t.kind)) else None

-- the stop of moves with these outcomes, the newest first: the first one stays
abbrev pub stop_of : Layout → History → List RtTurn → Option Stop
stop_of layout (pair ∷ past) (outcome ∷ older) = first_stop (stop_of layout past older) (stop_by layout past outcome)
stop_of layout _ _ = None

-- moves led from the build to this machine, each of which names the cause after it by an outcome; and the journal has the stop of these
pub record KeepsStop (layout : Layout) (image : List ℕ) (past : History) (state : State) (journal : Journal) : Type 0 where
  pub outcomes : List RtTurn
  pub named : AreNamedMoves layout image past state journal.events outcomes
  pub stop_is : journal.stop ≡ stop_of layout past outcomes
