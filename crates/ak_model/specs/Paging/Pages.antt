-- The pages of the enclave: their numbers, what each allows, and the clusters of the program's pages. (SDM volume 3D, "SECINFO".)
use Rattle.std.specs.Prelude.{ℕ, ◌+◌, Bool, true, false, List, length, Option, Some, None, nat_lt, ◌==◌, slice_get, slice_index, filter, if◌then◌else◌}
use Rattle.std.specs.List.{range_with_len}
use Rattle.ak_core.specs.Layout.{Layout}
use Rattle.ak_core.specs.declared.page.Flags.{Flags}
use Rattle.ak_core.specs.declared.page.Kind.{Kind}
use Rattle.ak_core.specs.declared.page.Kind.TheVariants.{Read, Write, Exec}
use Rattle.ak_core.specs.declared.page.Perm.{Perm}
use Rattle.ak_core.specs.declared.page.Perm.TheVariants.{R, Rw, Rx}

-- the program's pages come first; the runtime's pages follow them: one TCS, three saved-state areas, STATE and CODE
abbrev pub pages : Layout → ℕ
pages layout = length layout.perms

-- the TCS
abbrev pub tcs_page : Layout → ℕ
tcs_page layout = pages layout

-- a saved-state area
abbrev pub ssa_page : Layout → ℕ → ℕ
ssa_page layout i = pages layout + 1 + i

-- the runtime's STATE
abbrev pub state_page : Layout → ℕ
state_page layout = pages layout + 4

-- the runtime's CODE
abbrev pub code_page : Layout → ℕ
code_page layout = pages layout + 5

-- how many pages there are in all
abbrev pub all_pages : Layout → ℕ
all_pages layout = pages layout + 6

-- what a page allows; the TCS page, and a page that the enclave does not have, allow nothing
abbrev pub perm_of : Layout → ℕ → Option Perm
perm_of layout p =
    if nat_lt p (pages layout) then slice_get layout.perms p
    else (if p == tcs_page layout then None
    else (if nat_lt p (code_page layout) then Some Rw
    else (if p == code_page layout then Some Rx
    else None)))

-- every page allows reading
abbrev pub allows : Perm → Kind → Bool
allows perm Read = true
allows R Write = false
allows R Exec = false
allows Rw Write = true
allows Rw Exec = false
allows Rx Write = false
allows Rx Exec = true

-- a permission, if there is one, allows the access
abbrev pub permits_by : Option Perm → Kind → Bool
permits_by None kind = false
permits_by (Some perm) kind = allows perm kind

-- the page allows the access
abbrev pub permits : Layout → ℕ → Kind → Bool
permits layout p kind = permits_by (perm_of layout p) kind

-- the most that a page allows
abbrev pub strong : Perm → Kind
strong R = Read
strong Rw = Write
strong Rx = Exec

-- the most that a permission allows, if there is one
abbrev pub strong_by : Option Perm → Kind
strong_by None = Read
strong_by (Some perm) = strong perm

-- the most that the page allows
abbrev pub strong_kind : Layout → ℕ → Kind
strong_kind layout p = strong_by (perm_of layout p)

-- the flags of a page-table entry that maps a page for all that it allows
abbrev pub flags_for : Perm → Flags
flags_for R = record { p = true; w = false; x = false; a = true; d = true }
flags_for Rw = record { p = true; w = true; x = false; a = true; d = true }
flags_for Rx = record { p = true; w = false; x = true; a = true; d = true }

-- the flags of an entry that maps nothing
abbrev pub no_flags : Flags
no_flags = record { p = false; w = false; x = false; a = false; d = false }

-- the flags for all that a page allows, if it allows anything
abbrev pub strong_flags : Option Perm → Flags
strong_flags None = no_flags
strong_flags (Some perm) = flags_for perm

-- the cluster of a program page
abbrev pub cluster_at : Layout → ℕ → ℕ
cluster_at layout p = slice_index layout.cluster_of p

-- the pages of a cluster, ascending
abbrev pub pages_of : Layout → ℕ → List ℕ
pages_of layout c = filter (λ p. cluster_at layout p == c) (range_with_len 0 (pages layout))
