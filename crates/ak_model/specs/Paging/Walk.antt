-- Which pages a walk of the page table finds. (SDM volume 3D, "Access-control for EPC pages"; accessed and dirty bits are
-- demanded as in the Autarky paper.)
use Rattle.std.specs.Prelude.{ℕ, Bool, ◌&&◌, is_none}
use Rattle.ak_core.specs.Layout.{Layout}
use Rattle.ak_core.specs.declared.page.Fault.{Fault}
use Rattle.ak_core.specs.declared.page.Flags.{Flags}
use Rattle.ak_core.specs.declared.page.Kind.{Kind}
use Rattle.ak_core.specs.declared.page.Kind.TheVariants.{Read, Write, Exec}
use Rattle.ak_model.specs.Paging.Pages.{permits, tcs_page}
use Rattle.ak_model.specs.Paging.Histories.{History}
use Rattle.ak_model.specs.Paging.Holdings.{is_page_in}
use Rattle.ak_model.specs.Paging.Frames.{held, blocked_at}
use Rattle.ak_model.specs.Paging.PageTable.{pte}

-- present, accessed and dirty are asked of every entry, and set by no walk
abbrev pub is_preset : Flags → Bool
is_preset flags = flags.p && (flags.a && flags.d)

-- the flags let a walk of this kind through
abbrev pub flags_allow : Flags → Kind → Bool
flags_allow flags Read = is_preset flags
flags_allow flags Write = is_preset flags && flags.w
flags_allow flags Exec = is_preset flags && flags.x

-- the page's entry names an unblocked frame that holds the page
abbrev pub is_in_frame : Layout → History → ℕ → ℕ → Bool
is_in_frame layout past p f = is_page_in (held layout past f) p && is_none (blocked_at past f)

-- a walk of this kind finds the page. The TCS page, which permits nothing, is found by no such walk
abbrev pub walkable : Layout → History → ℕ → Kind → Bool
walkable layout past p kind =
    let entry = pte layout past p in
    permits layout p kind && (flags_allow entry.flags kind && is_in_frame layout past p entry.frame)

-- a walk finds the access
abbrev pub access_walkable : Layout → History → Fault → Bool
access_walkable layout past t = walkable layout past t.page.0 t.kind

-- entering finds the TCS page
abbrev pub tcs_walkable : Layout → History → Bool
tcs_walkable layout past =
    let entry = pte layout past (tcs_page layout) in
    is_preset entry.flags && is_in_frame layout past (tcs_page layout) entry.frame
