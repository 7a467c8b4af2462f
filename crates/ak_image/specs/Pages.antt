-- What the texts of the pages say.
use Rattle.std.specs.Prelude.{ℕ, ◌-◌, List, ◌++◌, length, replicate, Option, Some, None, Result, Ok, Err, nat_le, codes, if◌then◌else◌}
use Rattle.std.specs.List.{concat}
use Rattle.std.specs.Str.{bytes_eq}
use Rattle.hex.specs.Hex.{decode_of}
use Rattle.hex.specs.declared.error.FromHexError.{FromHexError}
use Rattle.ak_core.specs.declared.page.Perm.{Perm}
use Rattle.ak_core.specs.declared.page.Perm.TheVariants.{R, Rw, Rx}
use Rattle.ak_measure.specs.Stages.{◌>>=◌}
use Rattle.ak_image.specs.Spelled.{PageText}
use Rattle.ak_image.specs.Stages.{each}
use Rattle.ak_image.specs.declared.fault.ImageFault.{ImageFault}
use Rattle.ak_image.specs.declared.fault.ImageFault.TheVariants.{PagePerm, PageBytes}

-- the permission of this name
abbrev pub perm_named : List ℕ → Option Perm
perm_named name =
    if bytes_eq name (codes "r") then Some R
    else (if bytes_eq name (codes "rw") then Some Rw
    else (if bytes_eq name (codes "rx") then Some Rx
    else None))

-- at most 4096 bytes, filled up with zeros
abbrev pub filled_up : Result (List ℕ) FromHexError → Option (List ℕ)
filled_up (Ok bytes) = if nat_le (length bytes) 4096 then Some (bytes ++ replicate (4096 - length bytes) 0) else None
filled_up (Err e) = None

-- the page whose first bytes are spelled by hexadecimal digits
abbrev pub page_of : List ℕ → Option (List ℕ)
page_of digits = filled_up (decode_of digits)

-- a page's permission, and its bytes
abbrev pub perm_of : PageText → Option Perm
perm_of page = perm_named page.perms

abbrev pub content_of : PageText → Option (List ℕ)
content_of page = page_of page.bytes

-- the permissions of all pages
unfoldable pub perms_of : List PageText → Result (List Perm) ImageFault
perms_of pages = each PagePerm perm_of pages

-- the bytes of all pages, one page after the other
unfoldable pub bytes_of : List PageText → Result (List ℕ) ImageFault
bytes_of pages = do
  contents ← each PageBytes content_of pages
  Ok (concat contents)
