-- Which outputs the program has called for, and which of them were shown: all, but the one whose call is about to leave; and but
-- one, perhaps, of a dead enclave.
use Rattle.std.specs.Prelude.{◌≡◌, ℕ, List, [], ◌∷◌, ◌++◌, Option, Some, None}
use Rattle.ak_core.specs.declared.event.Event.{Event}
use Rattle.ak_core.specs.declared.event.Event.TheVariants.{Call}
use Rattle.ak_model.specs.Paging.Histories.{Change, Exits}
use Rattle.ak_model.specs.Flat.FlatRuns.{output_of_call}
use Rattle.ak_model.specs.Control.ControlState.{Phase, Running, Dead, Context, Leave, Control}
use Rattle.ak_model.specs.Control.OneTurn.{Turn, Goes, Leaves}
use Rattle.ak_model.specs.Tapes.ProgramTurns.{ProgramTurn}
use Rattle.ak_model.specs.Sound.Outputs.{output_by}
use Rattle.ak_model.specs.Laws.OwedAnswers.{oldest}

-- ---- Outputs that were called for

-- the output of a call with number 1
abbrev pub output_in : Option Event → Option ℕ
output_in (Some (Call i b a)) = output_of_call b a
output_in _ = None

-- one more output, if there is one
abbrev pub one_more : List ℕ → Option ℕ → List ℕ
one_more outputs None = outputs
one_more outputs (Some output) = outputs ++ output ∷ []

-- the outputs that these turns called for, the turns the newest first and the outputs in order
abbrev pub outputs_by : List ProgramTurn → List ℕ
outputs_by [] = []
outputs_by (turn ∷ older) = one_more (outputs_by older) (output_in turn.event)

-- ---- The one that was not shown

-- the output that is not shown yet, if there is one; or it may be lost
pub data Unshown : Type 0 where
  Pending : (output : Option ℕ) → Unshown
  Lost : Unshown

-- a program that runs has one where its call is about to leave
abbrev pub pending_running : Option Context → Option ℕ
pending_running (Some (Leave b a)) = output_of_call b a
pending_running _ = None

-- by the phase, and the oldest context
abbrev pub unshown_by : Phase → Option Context → Unshown
unshown_by Running context = Pending (pending_running context)
unshown_by Dead context = Lost
unshown_by _ context = Pending None

-- of a control state
abbrev pub unshown : Control → Unshown
unshown control = unshown_by control.phase (oldest control.stack control.now)

-- these outputs were called for, and those were shown
abbrev pub IsShown : Unshown → List ℕ → List ℕ → Type 0
IsShown (Pending output) called shown = called ≡ one_more shown output
IsShown Lost called shown = (output : Option ℕ) × (called ≡ one_more shown output)

-- where the enclave is in this control state
pub record AreShown (called shown : List ℕ) (control : Control) : Type 0 where
  pub are : IsShown (unshown control) called shown

-- the same of what a turn comes to, which shows an output by its exit
abbrev pub TurnShows : List ℕ → List ℕ → Turn → Type 0
TurnShows called shown (Goes control) = AreShown called shown control
TurnShows called shown (Leaves exit control) = AreShown called (one_more shown (output_by exit)) control

-- the output that a change shows: that of the exit by which a processor left
abbrev pub output_of_change : Change → Option ℕ
output_of_change (Exits lp exit) = output_by exit
output_of_change _ = None
