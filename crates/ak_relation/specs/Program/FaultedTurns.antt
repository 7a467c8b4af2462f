-- The access by which a turn of the program faulted, and what is noted of it. (The Autarky paper, self-paging runtime: a fault of the
-- program is a miss, or breaks the enclave.)
use Rattle.std.specs.Prelude.{◌≡◌, ℕ, Bool, true, false, IsTrue, List, ◌∷◌, take, slice_get, Option, Some, None, ◌==◌, if◌then◌else◌}
use Rattle.std.specs.List.{list_all}
use Rattle.ak_core.specs.Layout.{Layout}
use Rattle.ak_core.specs.Mem.{Access}
use Rattle.ak_core.specs.declared.event.Event.{Event}
use Rattle.ak_core.specs.declared.event.Event.TheVariants.{Miss, Trap, Break}
use Rattle.ak_model.specs.Paging.Pages.{cluster_at}
use Rattle.ak_model.specs.Clusters.Queue.{is_in}
use Rattle.ak_model.specs.Flat.FlatRuns.{is_forbidden}
use Rattle.ak_model.specs.Tapes.LastMoment.{FlatRuns}
use Rattle.ak_model.specs.Tapes.ProgramTurns.{ProgramTurn}
use Rattle.ak_model.specs.Misses.Reached.{accesses_at}
use Rattle.ak_model.specs.Misses.FaultingAccess.{may_succeed}
use Rattle.ak_model.specs.Misses.KeptTranslations.{MayFaultUnkept}
use Rattle.ak_model.specs.Sound.Forced.{queue_by}

-- the event of an access that faulted after so many instructions, by the clusters that are in
abbrev pub fault_event : Layout → List ℕ → ℕ → Access → Event
fault_event layout queue count t =
    if is_forbidden layout t then Trap count 14
    else (if is_in queue (cluster_at layout t.page.0) then Break count else Miss count (cluster_at layout t.page.0))

-- an event that an access brings about
abbrev pub is_of_access : Option Event → Bool
is_of_access (Some (Miss i c)) = true
is_of_access (Some (Break i)) = true
is_of_access (Some (Trap i v)) = v == 14
is_of_access _ = false

-- this access of the turn's instruction is denied: its page does not allow it, and each access before it may succeed
pub record IsDenied (layout : Layout) (runs : FlatRuns) (turn : ProgramTurn) (t : Access) : Type 0 where
  pub place : ℕ
  pub stands : slice_get (accesses_at layout runs turn) place ≡ Some t
  pub earlier : IsTrue (list_all (may_succeed layout turn) (take place (accesses_at layout runs turn)))

-- the access may be what ended the turn: it is denied, or it may fault and its translation is not kept
abbrev pub MayEnd : Bool → Layout → FlatRuns → ProgramTurn → List ProgramTurn → Access → Type 0
MayEnd true layout runs turn older t = IsDenied layout runs turn t
MayEnd false layout runs turn older t = MayFaultUnkept layout runs turn older t

-- the turn faulted by this access: its event is that of the access, which may be what ended it
pub record IsFaultBy (layout : Layout) (runs : FlatRuns) (turn : ProgramTurn) (older : List ProgramTurn) (t : Access) : Type 0 where
  pub event : turn.event ≡ Some (fault_event layout (queue_by layout older) turn.count t)
  pub ends : MayEnd (is_forbidden layout t) layout runs turn older t

-- what is noted of a turn: the access by which it faulted, or none where its event is of none
abbrev pub NotesFault : Layout → FlatRuns → ProgramTurn → List ProgramTurn → Option Access → Type 0
NotesFault layout runs turn older None = is_of_access turn.event ≡ false
NotesFault layout runs turn older (Some t) = IsFaultBy layout runs turn older t

-- the newest of these turns faulted by this access
pub record FaultedLast (layout : Layout) (runs : FlatRuns) (turns : List ProgramTurn) (t : Access) : Type 0 where
  pub turn : ProgramTurn
  pub older : List ProgramTurn
  pub newest : turns ≡ turn ∷ older
  pub by : IsFaultBy layout runs turn older t
