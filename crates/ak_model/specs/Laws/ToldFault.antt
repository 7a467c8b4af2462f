-- What stands behind the move to blame: the last page fault is the one that the newest refusal to resume tells of.
use Rattle.std.specs.Prelude.{◌≡◌, ℕ, ◌≤◌, Bool, true, false, List, [], ◌∷◌, Option, Some, None}
use Rattle.ak_core.specs.Layout.{Layout}
use Rattle.ak_core.specs.declared.event.Event.{Event}
use Rattle.ak_core.specs.declared.event.Event.TheVariants.{Break}
use Rattle.ak_model.specs.Paging.Histories.{History}
use Rattle.ak_model.specs.Paging.Walk.{access_walkable}
use Rattle.ak_model.specs.Control.ControlState.{Context, Guard, Reason, Interrupted, Cleared, Broke, Faulted, Saved, Control}
use Rattle.ak_model.specs.Control.Trace.{Moment}
use Rattle.ak_model.specs.Tapes.ProgramTurns.{ProgramTurn}
use Rattle.ak_model.specs.Stops.Blame.{past_before_fault, resumed_at}
use Rattle.ak_model.specs.Laws.Orderly.{is_live}

-- this reason, if it refuses to resume, or else another
abbrev pub refusal_or : Reason → Option Reason → Option Reason
refusal_or Interrupted other = other
refusal_or Cleared other = other
refusal_or reason other = Some reason

-- the newest saved reason that refuses to resume
abbrev pub newest_refusal : List Saved → Option Reason
newest_refusal [] = None
newest_refusal (saved ∷ older) = refusal_or saved.reason (newest_refusal older)

-- an access broke
abbrev pub is_break : Option Event → Bool
is_break (Some (Break i)) = true
is_break _ = false

-- the newest of these turns broke, and this is the history before its move
abbrev pub LastBroke : History → List ProgramTurn → Type 0
LastBroke before [] = ⊥
LastBroke before (turn ∷ older) = (turn.past ≡ before) × (is_break turn.event ≡ true)

-- a step faulted at an access that no walk found then; and a break is that of the newest turn of the program
abbrev pub FaultStands : Layout → History → List ProgramTurn → Option Reason → Type 0
FaultStands layout before turns (Some (Faulted t)) = access_walkable layout before t ≡ false
FaultStands layout before turns (Some Broke) = LastBroke before turns
FaultStands layout before turns _ = Unit {0}

-- the guard is inside
abbrev pub is_guard : Option Context → Bool
is_guard (Some Guard) = true
is_guard _ = false

-- the last fault is the one that the newest refusal tells of, as long as the program may go on; and a guard inside was resumed
pub record FaultIsTold (layout : Layout) (before : History) (resumed : ℕ) (turns : List ProgramTurn) (control : Control) : Type 0 where
  pub fault : is_live control.phase ≡ true → FaultStands layout before turns (newest_refusal control.stack)
  pub guard : is_guard control.now ≡ true → 1 ≤ resumed

-- it does, by the history of a moment and the program turns so far
abbrev pub FaultIsToldAt : Layout → List ProgramTurn → Moment → Type 0
FaultIsToldAt layout turns moment =
    FaultIsTold layout (past_before_fault moment.past) (resumed_at moment.past) turns moment.control
