-- The parts of the relation on the program's turns: their events are a tape of the image's program, each turn stands, and the
-- control state keeps its laws with them.
use Rattle.std.specs.Prelude.{◌≡◌, ℕ, zero, suc, ◌<◌, ◌≤◌, Bool, true, false, ◌||◌, not, List, [], ◌∷◌, ◌++◌, length, Option, Some, None, option_and_then}
use Rattle.ak_core.specs.Layout.{Layout}
use Rattle.ak_core.specs.declared.event.Event.{Event}
use Rattle.ak_model.specs.Paging.Histories.{History}
use Rattle.ak_model.specs.Paging.Inside.{someone_inside}
use Rattle.ak_core.specs.declared.event.Event.TheVariants.{Call, Miss, Trap, Break}
use Rattle.ak_model.specs.Control.ControlState.{Phase, New, Context, Leave, Reason, Raised, Denied, Broke, Saved, Control}
use Rattle.ak_model.specs.Tapes.Tape.{is_tape}
use Rattle.ak_model.specs.Tapes.LastMoment.{FlatRuns}
use Rattle.ak_model.specs.Sound.Events.{completed_by, ending_at, call_at, TrapsAreForced}
use Rattle.ak_model.specs.Laws.Premises.{MissesFit}
use Rattle.ak_model.specs.Tapes.ProgramTurns.{ProgramTurn}
use Rattle.ak_model.specs.Misses.Reached.{ComesTo}
use Rattle.ak_model.specs.Sound.Forced.{EachTurn, ReachedBy, queue_by}
use Rattle.ak_model.specs.Sound.ForcedMisses.{MissedBy}
use Rattle.ak_model.specs.Sound.BreaksAndStop.{BrokenUnkeptBy}
use Rattle.ak_model.specs.Laws.Orderly.{is_live, IsOrderly}
use Rattle.ak_model.specs.Laws.Presence.{IsPresent}
use Rattle.ak_model.specs.Laws.Calls.{calls_by, IsAnswered}
use Rattle.ak_model.specs.Laws.EarlierTurns.{AreEarlier}

-- ---- The events of turns

-- an event, if there is one, as a list
abbrev pub listed : Option Event → List Event
listed None = []
listed (Some event) = event ∷ []

-- the events that these turns gave, the turns the newest first and the events in order
abbrev pub events_by : List ProgramTurn → List Event
events_by [] = []
events_by (turn ∷ older) = events_by older ++ listed turn.event

-- the tape is one of the image's program: each miss is of a cluster that is out by the misses before it, each completed
-- instruction is one of the flat run and a call just where the tape has it, and each trap is forced
pub record TapeStands (layout : Layout) (runs : FlatRuns) (count : ℕ) (events : List Event) : Type 0 where
  pub ordered : is_tape events ≡ true
  pub fit : MissesFit layout [] events
  pub completed : (i : ℕ) → i < count → option_and_then completed_by (ending_at layout runs i) ≡ Some (call_at events i)
  pub traps : TrapsAreForced layout runs events

-- ---- Turns that stand

-- the flat run comes to the turn's instruction; where it completes or traps, its accesses were reached; a miss is forced, and a
-- break too, though no stop names its access yet
pub record TurnStands (layout : Layout) (runs : FlatRuns) (turn : ProgramTurn) (older : List ProgramTurn) : Type 0 where
  pub comes : ComesTo runs turn
  pub reached : ReachedBy layout runs turn turn.event
  pub missed : MissedBy layout runs turn older turn.event
  pub broken : BrokenUnkeptBy layout runs None turn older turn.event

-- each turn stands with those before it
abbrev pub TurnsStand : Layout → FlatRuns → List ProgramTurn → Type 0
TurnsStand layout runs turns = EachTurn (TurnStands layout runs) turns

-- ---- Whether the program has ended

-- the reason ends the program, once the runtime deals with it
abbrev pub ends_by : Reason → Bool
ends_by (Raised v) = true
ends_by Denied = true
ends_by Broke = true
ends_by _ = false

-- the context is a call that ends the program
abbrev pub is_last_call : Option Context → Bool
is_last_call (Some (Leave zero status)) = true
is_last_call _ = false

-- the oldest context is the last of the program
abbrev pub is_last : List Saved → Option Context → Bool
is_last [] now = is_last_call now
is_last (saved ∷ []) now = ends_by saved.reason || is_last_call (Some saved.context)
is_last (saved ∷ next ∷ older) now = is_last (next ∷ older) now

-- the program has ended, or will as soon as the runtime takes its step
abbrev pub has_ended : Control → Bool
has_ended control = not (is_live control.phase) || is_last control.stack control.now

-- the program may go on after these events: each is a miss, or a call before this count that does not end it
abbrev pub IsGoing : ℕ → List Event → Type 0
IsGoing count [] = Unit {0}
IsGoing count (Call i zero a ∷ events) = ⊥
IsGoing count (Call i (suc b) a ∷ events) = (i < count) × IsGoing count events
IsGoing count (Miss i c ∷ events) = (i ≤ count) × IsGoing count events
IsGoing count (Trap i v ∷ events) = ⊥
IsGoing count (Break i ∷ events) = ⊥

-- ---- The laws of the control state

-- where nothing has happened, nothing is complete and nothing was returned
abbrev pub IsFresh : Phase → ℕ → List ℕ → List ProgramTurn → Type 0
IsFresh New count returned turns = (count ≡ 0) × (returned ≡ []) × (turns ≡ [])
IsFresh _ count returned turns = Unit {0}

-- the control state keeps all laws; nothing of the tape is left, since the tape has the events so far alone
pub record LawsStand (layout : Layout) (past : History) (control : Control) (turns : List ProgramTurn) : Type 0 where
  pub orderly : IsOrderly layout (queue_by layout turns) (someone_inside layout past) control
  pub present : IsPresent layout (record { past = past; control = control })
  pub fresh : IsFresh control.phase control.count control.returned turns
  pub taken : control.rest ≡ []
  pub earlier : AreEarlier (length past) turns
  pub answered : IsAnswered (calls_by turns) control
  pub going : has_ended control ≡ false → IsGoing control.count (events_by turns)
