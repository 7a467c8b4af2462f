-- What a walk finds, by the flags of a page's entry in the page table and the EPCM's entry of the frame that it names.
-- (SDM volume 3D, "Access-control for EPC pages".)
use Rattle.std.specs.Prelude.{ℕ, Bool, true, false, not, ◌&&◌, ◌==◌}
use Rattle.ak_core.specs.declared.page.Entry.{Entry}
use Rattle.ak_core.specs.declared.page.Flags.{Flags}
use Rattle.ak_core.specs.declared.page.Kind.{Kind}
use Rattle.ak_core.specs.declared.page.Kind.TheVariants.{Read, Write, Exec}
use Rattle.ak_core.specs.declared.page.PageType.{PageType}
use Rattle.ak_core.specs.declared.page.PageType.TheVariants.{Secs, Tcs, Reg, Va}
use Rattle.ak_model.specs.Paging.Walk.{is_preset, flags_allow}

-- the type is that of a regular page
abbrev pub is_reg : PageType → Bool
is_reg Reg = true
is_reg Tcs = false
is_reg Secs = false
is_reg Va = false

-- the type is that of a TCS
abbrev pub is_tcs : PageType → Bool
is_tcs Tcs = true
is_tcs Reg = false
is_tcs Secs = false
is_tcs Va = false

-- the frame is in use for this page, and not blocked
abbrev pub is_open : Entry → ℕ → Bool
is_open entry p = entry.valid && (not entry.blocked && (entry.page.0 == p))

-- the EPCM allows an access of this kind
abbrev pub entry_allows : Entry → Kind → Bool
entry_allows entry Read = entry.r
entry_allows entry Write = entry.w
entry_allows entry Exec = entry.x

-- a walk of this kind finds the page: the flags let it through, and the frame holds the page, unblocked, as a regular one
-- that allows the kind
abbrev pub walk_finds : Flags → Entry → ℕ → Kind → Bool
walk_finds flags entry p kind =
    flags_allow flags kind && (is_open entry p && (is_reg entry.kind && entry_allows entry kind))

-- entering finds the page: its entry is preset, and the frame holds the page, unblocked, as a TCS
abbrev pub tcs_walk_finds : Flags → Entry → ℕ → Bool
tcs_walk_finds flags entry p = is_preset flags && (is_open entry p && is_tcs entry.kind)
