-- What the build puts into a frame. (SDM volume 3D, ECREATE and EADD.)
use Rattle.std.specs.Prelude.{◌≢◌, ℕ, Bool, true, false, replicate, Some}
use Rattle.std.specs.Option.{option_map}
use Rattle.ak_core.specs.declared.page.Entry.{Entry}
use Rattle.ak_core.specs.declared.page.Page.{Page}
use Rattle.ak_core.specs.declared.page.Perm.{Perm}
use Rattle.ak_core.specs.declared.page.Perm.TheVariants.{R, Rw, Rx}
use Rattle.ak_core.specs.declared.page.PageType.{PageType}
use Rattle.ak_core.specs.declared.page.PageType.TheVariants.{Secs, Reg, Va}
use Rattle.ak_sealed.specs.SealedPages.{Handles, sealed_page_at}
use Rattle.ak_track.specs.Steps.{Cycled}
use Rattle.ak_track.specs.Tracking.{Marks, HoldsSteps}

-- the entry of the frame of the SECS
abbrev pub secs_entry : Entry
secs_entry = record { valid = true; kind = Secs; page = record { 0 = 0 }; r = false; w = false; x = false; blocked = false }

-- the entry of a VA page
abbrev pub va_entry : Entry
va_entry = record { valid = true; kind = Va; page = record { 0 = 0 }; r = false; w = false; x = false; blocked = false }

-- the permission allows writing, or executing
abbrev pub is_writing : Perm → Bool
is_writing R = false
is_writing Rw = true
is_writing Rx = false

abbrev pub is_executing : Perm → Bool
is_executing R = false
is_executing Rw = false
is_executing Rx = true

-- the entry of an added page. That of a TCS has no permission
abbrev pub added_entry : Page → PageType → Perm → Entry
added_entry p Reg perm = record { valid = true; kind = Reg; page = p; r = true; w = is_writing perm; x = is_executing perm; blocked = false }
added_entry p kind perm = record { valid = true; kind = kind; page = p; r = false; w = false; x = false; blocked = false }

-- no live handle has this page
abbrev pub IsNotSealed : Handles → ℕ → Type 0
IsNotSealed handles p = (k : ℕ) → option_map (λ sealed_page. sealed_page.page) (sealed_page_at handles k) ≢ Some p

-- nothing was tracked but cycles: no processor has entered
abbrev pub HasOnlyCycled : Marks → Type 0
HasOnlyCycled track = HoldsSteps track track.lps (replicate track.cycles Cycled)
