-- The accesses that a memory granted in a turn, each with its frame.
use Rattle.std.specs.Prelude.{Bool, false, not, ◌&&◌, List, ◌∷◌, map, filter, reverse, Option, Some, None, is_some, ◌==◌, if◌then◌else◌}
use Rattle.ak_core.specs.Mem.{Access}
use Rattle.ak_core.specs.declared.page.Entry.{Entry}
use Rattle.ak_core.specs.declared.page.Frame.{Frame}
use Rattle.ak_epcm.specs.Entries.{entry_at, has_page}
use Rattle.ak_pte.specs.declared.table.Pte.{Pte}
use Rattle.ak_tlb.specs.Fills.{Fill}
use Rattle.ak_tlb.specs.Translations.{found}
use Rattle.ak_tlb.specs.declared.translation.Translation.{Translation}
use Rattle.ak_memory.specs.Granting.{granted_frame}
use Rattle.ak_memory.specs.declared.spot.Spot.{Spot}

-- the accesses
abbrev pub accesses_in : List Spot → List Access
accesses_in spots = map (λ spot. spot.access) spots

-- the frame is this one
abbrev pub is_frame : Option Frame → Frame → Bool
is_frame None f = false
is_frame (Some g) f = g.0 == f.0

-- the access is granted in this frame, and a walk found it just where it is not cached
abbrev pub is_spot : List Entry → List Pte → List Translation → Spot → Bool
is_spot entries table cached spot =
    is_frame (granted_frame entries table cached spot.access) spot.frame
    && (if is_some (found cached spot.access) then not spot.by_walk else spot.by_walk)

-- what its walk caches
abbrev pub spot_fill : Spot → Fill
spot_fill spot = record { access = spot.access; frame = spot.frame.0 }

-- what the walks of these cache, the newest first
abbrev pub spot_fills : List Spot → List Fill
spot_fills spots = map spot_fill (reverse (filter (λ spot. spot.by_walk) spots))

-- what was cached, with what this one's walk caches
abbrev pub fills_after : Spot → List Fill → List Fill
fills_after spot fills = if spot.by_walk then spot_fill spot ∷ fills else fills

-- its frame holds its page
abbrev pub spot_names_page : List Entry → Spot → Bool
spot_names_page entries spot = has_page (entry_at entries spot.frame.0) spot.access.page.0
