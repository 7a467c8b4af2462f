-- What turns and moves tell beside answers and events: the access by which the program faulted, and the outcome of the runtime's last
-- step.
use Rattle.std.specs.Prelude.{◌≡◌, ◌⊎◌, ℕ, ◌<◌, true, List, ◌++◌, Option, Some, None, nat_lt}
use Rattle.ak_core.specs.Layout.{Layout}
use Rattle.ak_core.specs.Mem.{Access}
use Rattle.ak_core.specs.declared.event.Event.{Event}
use Rattle.ak_core.specs.declared.moves.Answer.{Answer}
use Rattle.ak_core.specs.declared.moves.Exit.{Exit}
use Rattle.ak_core.specs.declared.moves.Move.{Move}
use Rattle.ak_core.specs.declared.moves.Move.TheVariants.{Run}
use Rattle.ak_core.specs.declared.page.Lp.{Lp}
use Rattle.ak_model.specs.Control.ControlState.{Context, Program, Control}
use Rattle.ak_model.specs.Paging.Histories.{History}
use Rattle.ak_model.specs.Paging.Inside.{inside}
use Rattle.ak_model.specs.Tapes.LastMoment.{FlatRuns}
use Rattle.ak_model.specs.Tapes.ProgramTurns.{ProgramTurn}
use Rattle.ak_pager.specs.declared.turn.RtTurn.{RtTurn}
use Rattle.ak_relation.specs.Program.FaultedTurns.{NotesFault}
use Rattle.ak_relation.specs.Program.Turns.{listed}
use Rattle.ak_relation.specs.Relation.Causes.{NamesCause}
use Rattle.ak_relation.specs.Relation.Does.{at_moment}
use Rattle.ak_relation.specs.Relation.Stands.{runs_at, Stands}
use Rattle.ak_relation.specs.Relation.StepNotes.{StepNotes}
use Rattle.ak_relation.specs.Relation.TurnByTurn.{AreTurns}
use Rattle.ak_relation.specs.State.MachineState.{State}

-- ---- A turn

-- the program's turn with this event
abbrev pub turn_giving : ℕ → History → Control → Option Event → ProgramTurn
turn_giving lp past control event = record { lp = lp; past = past; count = control.count; event = event }

-- what is told of a turn in this context, where the program has made these turns: of the program's, the access by which it faulted; of
-- the runtime's, the outcome of the step
abbrev pub TurnNotes : Layout → FlatRuns → ℕ → History → Control → List ProgramTurn → Option Event → Option Access → RtTurn → Option Context → Type 0
TurnNotes layout runs lp past control turns event noted outcome None = (noted ≡ None) × (outcome ≡ RtTurn.Go)
TurnNotes layout runs lp past control turns event noted outcome (Some Program) =
    NotesFault layout runs (turn_giving lp past control event) turns noted × (outcome ≡ RtTurn.Go)
TurnNotes layout runs lp past control turns event noted outcome (Some context) = (noted ≡ None) × StepNotes layout runs past control context turns outcome

-- a turn tells that, at each moment before it that the machine stands for
abbrev pub TellsTurn : Layout → ℕ → State → Option Event → Option Access → RtTurn → Type 0
TellsTurn layout lp old event noted outcome =
    (image : List ℕ) (past : History) (control : Control) (turns : List ProgramTurn) → inside past lp ≡ true → Stands layout image (at_moment past control turns old) →
    TurnNotes layout (runs_at layout image control) lp past control turns event noted outcome control.now

-- ---- A run

-- a run of a processor that is inside, whose last turn leaves and tells that; the turns before it go on
pub record LastTurn (layout : Layout) (lp : Lp) (all : ℕ) (old new : State) (exit : Exit) (event : Option Event) (noted : Option Access) (outcome : RtTurn) : Type 0 where
  pub known : nat_lt lp.0 layout.lps ≡ true
  pub in_use : (old.processors lp.0).inside ≡ true
  pub before : ℕ
  pub fewer : before < all
  pub mid : State
  pub first : Option Event
  pub second : Option Event
  pub turns : AreTurns layout lp.0 before old mid first
  pub turn : NamesCause layout lp.0 mid new (Some exit) second outcome
  pub both : listed first ++ listed second ≡ listed event
  pub tells : TellsTurn layout lp.0 mid second noted outcome

-- nothing is told
pub record IsQuiet (noted : Option Access) (outcome : RtTurn) : Type 0 where
  pub no_fault : noted ≡ None
  pub no_step : outcome ≡ RtTurn.Go

-- a run that used up its turns
pub record UsedUp (layout : Layout) (lp : Lp) (all : ℕ) (old new : State) (exit : Exit) (event : Option Event) (noted : Option Access) (outcome : RtTurn) : Type 0 where
  pub still : exit ≡ Exit.Still
  pub turns : AreTurns layout lp.0 all old new event
  pub quiet : IsQuiet noted outcome

-- ---- A move

-- a run tells what its last turn tells, if that leaves; and no other move tells anything
abbrev pub TellsMove : Layout → State → State → Move → Answer → Option Event → Option Access → RtTurn → Type 0
TellsMove layout old new (Run lp all) (Answer.Exit exit) event noted outcome =
    UsedUp layout lp all old new exit event noted outcome ⊎ LastTurn layout lp all old new exit event noted outcome
TellsMove layout old new m a event noted outcome = (event ≡ None) × IsQuiet noted outcome
