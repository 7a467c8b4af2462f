-- The pages of an enclave as its build makes them: their bytes, and what their SECINFO says. (SDM volume 3D, "Thread Control
-- Structure", "SECINFO"; STATE and CODE are this project's own.)
use Rattle.std.specs.Prelude.{◌≡◌, ℕ, ◌+◌, ◌-◌, ◌*◌, ◌==◌, nat_lt, List, ◌++◌, length, take, drop, map, zip, slice_get, if◌then◌else◌}
use Rattle.std.specs.List.{flat_map, range_with_len}
use Rattle.std.specs.Option.{option_map_or}
use Rattle.byteorder.specs.Endian.{little_bytes}
use Rattle.sha2.specs.Sha256.{sha256}
use Rattle.ak_core.specs.declared.page.Perm.{Perm}
use Rattle.ak_core.specs.declared.page.Perm.TheVariants.{R, Rw, Rx}
use Rattle.ak_measure.specs.Blocks.{zeros, blocks_of}
use Rattle.ak_image.specs.Image.{Image}
use Rattle.ak_core.specs.Layout.{enclave_size}

-- how many pages the program has
abbrev pub pages_of : Image → ℕ
pages_of image = length image.perms

-- ---- Bytes

-- a page of the program
abbrev pub program_page : Image → ℕ → List ℕ
program_page image p = take 4096 (drop (4096 * p) image.bytes)

-- the TCS: at 16 the offset of the first saved-state area, at 24 CSSA, which is 0, at 28 NSSA, which is 3, at 32 the offset of
-- the entry point, which is the start of CODE, and at 72 the pending flag, which is clear
unfoldable pub tcs_page : ℕ → List ℕ
tcs_page n =
    zeros 16 ++ little_bytes 8 (4096 * (n + 1)) ++ little_bytes 4 0 ++ little_bytes 4 3 ++ little_bytes 8 (4096 * (n + 5)) ++ zeros 32 ++ little_bytes 1 0 ++ zeros 4023

-- the number of a permission
abbrev pub perm_number : Perm → ℕ
perm_number R = 0
perm_number Rw = 1
perm_number Rx = 2

-- what CODE says of a page of the program: its cluster, its permission, and a zero
abbrev pub code_entry : ℕ → Perm → List ℕ
code_entry cluster perm = little_bytes 2 cluster ++ little_bytes 1 (perm_number perm) ++ zeros 1

-- what it says of all of them
abbrev pub code_table : List ℕ → List Perm → List ℕ
code_table cluster_of perms = flat_map (λ e. code_entry e.0 e.1) (zip cluster_of perms)

-- CODE: from 1024 on what it says of each page, at 3072 the budget, and at 3076 the entry
unfoldable pub code_page : List ℕ → List Perm → ℕ → ℕ → List ℕ
code_page cluster_of perms budget entry =
    zeros 1024 ++ code_table cluster_of perms ++ zeros (2048 - 4 * length perms) ++ little_bytes 4 budget ++ little_bytes 4 entry ++ zeros 1016

-- the program's pages come first; then the TCS, three saved-state areas and STATE, and CODE
unfoldable pub page_bytes : Image → ℕ → List ℕ
page_bytes image p =
    let n = pages_of image in
    if nat_lt p n then program_page image p
    else (if p == n then tcs_page n
    else (if nat_lt p (n + 5) then zeros 4096
    else code_page image.cluster_of image.perms image.budget image.entry))

-- ---- SECINFO

-- the flags of a regular page, whose type is 2: 1 for reading, 2 for writing, 4 for executing
abbrev pub regular : Perm → ℕ
regular R = 256 * 2 + 1
regular Rw = 256 * 2 + 3
regular Rx = 256 * 2 + 5

-- the flags of a page; the TCS has the type 1 and no permission
unfoldable pub secinfo_of : Image → ℕ → ℕ
secinfo_of image p =
    let n = pages_of image in
    if nat_lt p n then option_map_or regular (slice_get image.perms p) 0
    else (if p == n then 256 * 1
    else (if nat_lt p (n + 5) then regular Rw
    else regular Rx))

-- ---- The measurement

-- all pages, each with its flags and its bytes
abbrev pub built_pages : Image → List (ℕ × List ℕ)
built_pages image = map (λ p. (secinfo_of image p, page_bytes image p)) (range_with_len 0 (pages_of image + 6))

-- the blocks that its build leaves
abbrev pub image_blocks : Image → List ℕ
image_blocks image = blocks_of (enclave_size (pages_of image)) (built_pages image)

-- the measurement: SHA-256 of the blocks
unfoldable pub digest_of : Image → List ℕ
digest_of image = sha256 (image_blocks image)

-- two images that differ at most in their base and in their signer's name
pub record IsSameEnclave (image other : Image) : Type 0 where
  pub entry : image.entry ≡ other.entry
  pub perms : image.perms ≡ other.perms
  pub cluster_of : image.cluster_of ≡ other.cluster_of
  pub clusters : image.clusters ≡ other.clusters
  pub budget : image.budget ≡ other.budget
  pub bytes : image.bytes ≡ other.bytes
