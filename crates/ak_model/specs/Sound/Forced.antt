-- Two parts of the soundness of a journal: the accesses of what completes or traps were reached, and breaks are forced.
use Rattle.std.specs.Prelude.{◌≡◌, ℕ, true, List, [], ◌∷◌, reverse, filter_map, Option, Some, None}
use Rattle.ak_core.specs.Layout.{Layout}
use Rattle.ak_core.specs.Journal.{Journal}
use Rattle.ak_core.specs.Mem.{Access}
use Rattle.ak_core.specs.declared.event.Event.{Event}
use Rattle.ak_core.specs.declared.event.Event.TheVariants.{Call, Miss, Trap, Break}
use Rattle.ak_model.specs.Paging.Pages.{cluster_at}
use Rattle.ak_model.specs.Clusters.Queue.{queue_after, is_in}
use Rattle.ak_model.specs.Tapes.LastMoment.{FlatRuns, runs_of}
use Rattle.ak_model.specs.Tapes.ProgramTurns.{ProgramTurn, program_turns}
use Rattle.ak_model.specs.Misses.Reached.{MayComplete}
use Rattle.ak_model.specs.Misses.FaultingAccess.{MayFault}

-- ---- Turns with those before them

-- it holds of each of these turns, the newest first, with those before it
abbrev pub EachTurn : (ProgramTurn → List ProgramTurn → Type 0) → List ProgramTurn → Type 0
EachTurn P [] = Unit {0}
EachTurn P (turn ∷ older) = P turn older × EachTurn P older

-- the cluster that an event misses, if it is a miss
abbrev pub missed_by : Option Event → Option ℕ
missed_by (Some (Miss i c)) = Some c
missed_by _ = None

-- the clusters that are in by the misses of these turns, the newest first
abbrev pub queue_by : Layout → List ProgramTurn → List ℕ
queue_by layout older = queue_after layout (reverse (filter_map (λ turn. missed_by turn.event) older))

-- the program turns of a journal, the newest first
abbrev pub turns_of : Layout → Journal → List ProgramTurn
turns_of layout journal = program_turns layout journal.events (reverse journal.moves)

-- ---- What completes or traps

-- this holds where a turn with this event completes an instruction or traps
abbrev pub IfCarriedOut : Option Event → Type 0 → Type 0
IfCarriedOut None fact = fact
IfCarriedOut (Some (Call i b a)) fact = fact
IfCarriedOut (Some (Trap i v)) fact = fact
IfCarriedOut (Some (Miss i c)) fact = Unit {0}
IfCarriedOut (Some (Break i)) fact = Unit {0}

-- a turn with this event: where it completes an instruction or traps, its accesses were reached
abbrev pub ReachedBy : Layout → FlatRuns → ProgramTurn → Option Event → Type 0
ReachedBy layout runs turn event = IfCarriedOut event (MayComplete layout runs turn)

-- each turn of the journal that completes an instruction or traps has reached its accesses, up to a forbidden one
pub record AccessesAreReached (image : List ℕ) (layout : Layout) (journal : Journal) : Type 0 where
  pub turns_reach : EachTurn (λ turn. λ older. ReachedBy layout (runs_of layout image journal) turn turn.event) (turns_of layout journal)

-- ---- Breaks

-- an access may fault, by this word for it, though its cluster is in
pub record FaultsIn (layout : Layout) (queue : List ℕ) (MayFail : Access → Type 0) : Type 0 where
  pub access : Access
  pub faults : MayFail access
  pub inside : is_in queue (cluster_at layout access.page.0) ≡ true

-- this holds where a turn with this event breaks
abbrev pub IfBroken : Option Event → Type 0 → Type 0
IfBroken (Some (Break i)) fact = fact
IfBroken _ fact = Unit {0}

-- each turn of the journal that breaks is forced to, by this word for it
pub record EachBreak (layout : Layout) (journal : Journal) (IsForced : ProgramTurn → List ProgramTurn → Type 0) : Type 0 where
  pub turns_break : EachTurn (λ turn. λ older. IfBroken turn.event (IsForced turn older)) (turns_of layout journal)

-- a break is forced: an access may fault though its cluster is in by the misses before
abbrev pub BreakIsForced : Layout → FlatRuns → ProgramTurn → List ProgramTurn → Type 0
BreakIsForced layout runs turn older = FaultsIn layout (queue_by layout older) (MayFault layout runs turn)

-- a turn with this event: where it breaks, that is forced
abbrev pub BrokenBy : Layout → FlatRuns → ProgramTurn → List ProgramTurn → Option Event → Type 0
BrokenBy layout runs turn older event = IfBroken event (BreakIsForced layout runs turn older)

-- each turn of the journal that breaks is forced to
abbrev pub BreaksAreForced : List ℕ → Layout → Journal → Type 0
BreaksAreForced image layout journal = EachBreak layout journal (BreakIsForced layout (runs_of layout image journal))
