-- The pages of the runtime in their order: the TCS, three saved-state areas, STATE and CODE. (SDM volume 3D, "Thread Control
-- Structure", "State Save Area"; STATE and CODE are this project's own.)
use Rattle.std.specs.Prelude.{ℕ, ◌+◌, ◌==◌, nat_lt, if◌then◌else◌}
use Rattle.ak_core.specs.declared.page.Entry.{Entry}
use Rattle.ak_core.specs.declared.page.Perm.{Perm}
use Rattle.ak_core.specs.declared.page.Perm.TheVariants.{R, Rw, Rx}
use Rattle.ak_core.specs.declared.page.PageType.{PageType}
use Rattle.ak_core.specs.declared.page.PageType.TheVariants.{Tcs, Reg}
use Rattle.ak_encls.specs.Building.{added_entry}

-- the type of the i-th one
abbrev pub runtime_type : ℕ → PageType
runtime_type i = if i == 0 then Tcs else Reg

-- what the kernel maps it for: areas and STATE for writing, and CODE for executing
abbrev pub runtime_perm : ℕ → Perm
runtime_perm i = if i == 0 then R else (if nat_lt i 5 then Rw else Rx)

-- its entry, where the program has n pages
abbrev pub runtime_entry : ℕ → ℕ → Entry
runtime_entry n i = added_entry (record { 0 = n + i }) (runtime_type i) (runtime_perm i)
