-- The accesses that a move may make fail, by what walks found before it. (SDM volume 3D, "Access-control for EPC pages".)
use Rattle.std.specs.Prelude.{◌≡◌, ℕ, Bool, false, ◌&&◌, not, List, Option, Some, None, option_and_then, ◌==◌, if◌then◌else◌}
use Rattle.ak_core.specs.Layout.{Layout}
use Rattle.ak_core.specs.Mem.{Access}
use Rattle.ak_core.specs.declared.moves.Move.{Move}
use Rattle.ak_core.specs.declared.moves.Move.TheVariants.{SetPte, Eblock, Ewb, Eldu, Eldb, Eremove, Epa}
use Rattle.ak_core.specs.declared.page.Entry.{Entry}
use Rattle.ak_core.specs.declared.page.Frame.{Frame}
use Rattle.ak_core.specs.declared.page.Kind.{Kind}
use Rattle.ak_core.specs.declared.page.Kind.TheVariants.{Read, Write, Exec}
use Rattle.ak_core.specs.declared.page.Page.{Page}
use Rattle.ak_epcm.specs.Entries.{entry_at, is_of_page}
use Rattle.ak_model.specs.Paging.Histories.{History}
use Rattle.ak_model.specs.Paging.Walk.{access_walkable}
use Rattle.ak_run.specs.declared.watch.Found.{Found}
use Rattle.ak_run.specs.declared.watch.Watch.{Watch}

-- the page that a move names
abbrev pub named_by : Move → Option Page
named_by (SetPte p f flags) = Some p
named_by (Eldu f k p va i) = Some p
named_by (Eldb f k p va i) = Some p
named_by _ = None

-- the frame that a move would block, empty or fill
abbrev pub frame_by : Move → Option Frame
frame_by (Eblock f) = Some f
frame_by (Ewb f va i) = Some f
frame_by (Eldu f k p va i) = Some f
frame_by (Eldb f k p va i) = Some f
frame_by (Eremove f) = Some f
frame_by (Epa f) = Some f
frame_by _ = None

-- the page of the enclave in a frame with this entry
abbrev pub page_in : Entry → Option Page
page_in entry = if is_of_page entry then Some entry.page else None

-- the page in the frame that a move would block, empty or fill
abbrev pub framed_by : List Entry → Move → Option Page
framed_by entries m = option_and_then (λ f. page_in (entry_at entries f.0)) (frame_by m)

-- it is this page
abbrev pub is_page : Option Page → ℕ → Bool
is_page None p = false
is_page (Some q) p = p == q.0

-- an access of this kind is found
abbrev pub finds : Found → Kind → Bool
finds found Read = found.read
finds found Write = found.write
finds found Exec = found.exec

-- the access is watched
abbrev pub watches : Watch → Access → Bool
watches watch t = (t.page.0 == watch.page.0) && finds watch.found t.kind

-- of this page just the accesses that walks find are watched, and of no other page any
abbrev pub IsWatched : Layout → History → Option Page → Watch → Type 0
IsWatched layout past page watch = (t : Access) → watches watch t ≡ (is_page page t.page.0 && access_walkable layout past t)

-- of the accesses that were watched just those are left that walks find no more
abbrev pub AreLeft : Layout → History → Watch → Watch → Type 0
AreLeft layout past old new = (t : Access) → watches new t ≡ (watches old t && not (access_walkable layout past t))
