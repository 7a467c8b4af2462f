-- Which translations a processor has kept for certain, so that no walk is made for them: those of the accesses that it was
-- granted since it entered, where these are few. (SDM volume 3A, "Translation Lookaside Buffers (TLBs)": entering and leaving
-- flush, and nothing else takes a translation away; how few are surely kept is this project's own.)
use Rattle.std.specs.Prelude.{◌≡◌, ℕ, ◌%◌, Bool, true, false, ◌&&◌, List, [], ◌∷◌, ◌++◌, length, take, filter, flat_map, Option, Some, None, nat_le, ◌==◌}
use Rattle.std.specs.List.{range_with_len, list_any, list_all}
use Rattle.ak_core.specs.Layout.{Layout}
use Rattle.ak_core.specs.Mem.{Access}
use Rattle.ak_core.specs.declared.event.Event.{Event}
use Rattle.ak_core.specs.declared.event.Event.TheVariants.{Call, Miss, Trap, Break}
use Rattle.ak_core.specs.declared.page.Kind.{Kind}
use Rattle.ak_core.specs.declared.page.Kind.TheVariants.{Read, Write, Exec}
use Rattle.ak_model.specs.Tapes.LastMoment.{FlatRuns}
use Rattle.ak_model.specs.Tapes.ProgramTurns.{ProgramTurn}
use Rattle.ak_model.specs.Misses.Reached.{entered_at, accesses_at}
use Rattle.ak_model.specs.Misses.FaultingAccess.{MayFault}

-- ---- The accesses that were granted

-- a turn that gives this event completes an instruction
abbrev pub completes_by : Option Event → Bool
completes_by None = true
completes_by (Some (Call i b a)) = true
completes_by (Some (Miss i c)) = false
completes_by (Some (Trap i v)) = false
completes_by (Some (Break i)) = false

-- an earlier turn is of the same processor, since the same entering
abbrev pub is_same_stay : ProgramTurn → ProgramTurn → Bool
is_same_stay turn earlier = (earlier.lp == turn.lp) && (entered_at earlier == entered_at turn)

-- an earlier turn completed an instruction since the entering of this turn's processor
abbrev pub completed_since : ProgramTurn → ProgramTurn → Bool
completed_since turn earlier = completes_by earlier.event && is_same_stay turn earlier

-- the accesses of the instructions that the processor completed since it entered
abbrev pub granted_since : Layout → FlatRuns → ProgramTurn → List ProgramTurn → List Access
granted_since layout runs turn older = flat_map (accesses_at layout runs) (filter (completed_since turn) older)

-- the accesses that were granted since the entering, before the one at this place of the turn's instruction: also those that
-- stand before it there
abbrev pub granted_before : Layout → FlatRuns → ProgramTurn → List ProgramTurn → ℕ → List Access
granted_before layout runs turn older place =
    granted_since layout runs turn older ++ take place (accesses_at layout runs turn)

-- ---- Those that are kept

-- equal kinds
abbrev pub same_kind : Kind → Kind → Bool
same_kind Read Read = true
same_kind Write Write = true
same_kind Exec Exec = true
same_kind _ _ = false

-- equal accesses
abbrev pub same_access : Access → Access → Bool
same_access t u = (t.page.0 == u.page.0) && same_kind t.kind u.kind

-- the access is one of these
abbrev pub is_among : List Access → Access → Bool
is_among accesses t = list_any (same_access t) accesses

-- one more access, unless it was there
abbrev pub unless_there : Bool → Access → List Access → List Access
unless_there true t accesses = accesses
unless_there false t accesses = t ∷ accesses

-- each of these accesses once
abbrev pub distinct : List Access → List Access
distinct [] = []
distinct (t ∷ accesses) = unless_there (is_among accesses t) t (distinct accesses)

-- at most four different ones have a page of this remainder modulo 16
abbrev pub are_few_of : List Access → ℕ → Bool
are_few_of accesses remainder = nat_le (length (filter (λ t. t.page.0 % 16 == remainder) (distinct accesses))) 4

-- the translation of an access is kept: the access was granted, and for each remainder modulo 16 at most four different ones
-- were
abbrev pub is_kept : List Access → Access → Bool
is_kept granted t = is_among granted t && list_all (are_few_of granted) (range_with_len 0 16)

-- ---- What may fault beside what is kept

-- this access of the turn's instruction may fault, and its translation is not kept; given the turns before
pub record MayFaultUnkept (layout : Layout) (runs : FlatRuns) (turn : ProgramTurn) (older : List ProgramTurn) (t : Access) : Type 0 where
  pub may_fault : MayFault layout runs turn t
  pub unkept : is_kept (granted_before layout runs turn older may_fault.place) t ≡ false
