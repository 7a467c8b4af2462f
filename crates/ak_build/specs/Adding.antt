-- An enclave while its pages are added: so many of the program, each sealed, and so many of the runtime, each in its frame. (SDM
-- volume 3D, ECREATE, EADD, EEXTEND, EWB.)
use Rattle.std.specs.Prelude.{◌≡◌, ℕ, ◌+◌, ◌-◌, ◌*◌, ◌<◌, List, length, map, ◌==◌, nat_lt, Option, None, slice_get, if◌then◌else◌}
use Rattle.std.specs.Bool.{then_some}
use Rattle.std.specs.List.{All, range_with_len}
use Rattle.std.specs.Option.{option_map}
use Rattle.ak_core.specs.Layout.{enclave_size}
use Rattle.ak_core.specs.declared.page.Entry.{Entry}
use Rattle.ak_core.specs.declared.page.PageType.TheVariants.{Reg}
use Rattle.ak_model.specs.Flat.Instructions.{number_at}
use Rattle.ak_epcm.specs.Entries.{free_entry, entry_at}
use Rattle.ak_measure.specs.Absorbed.{HasAbsorbed}
use Rattle.ak_measure.specs.Blocks.{blocks_of}
use Rattle.ak_sealed.specs.SealedPages.{SealedPage, sealed_page_at, sealed_page_of, version}
use Rattle.ak_image.specs.Built.{pages_of, page_bytes, secinfo_of}
use Rattle.ak_image.specs.Image.{Image, IsWhole}
use Rattle.ak_encls.specs.Building.{secs_entry, va_entry, added_entry, HasOnlyCycled}
use Rattle.ak_encls.specs.Enclave.{Enclave, frame_at}
use Rattle.ak_build.specs.Runtime.{runtime_entry}

-- the entry of a frame: the SECS, the VA page, and m pages of the runtime are in the first ones, where the program has n
abbrev pub entry_so_far : ℕ → ℕ → ℕ → Entry
entry_so_far n m f =
    if f == 0 then secs_entry
    else (if f == 1 then va_entry
    else (if nat_lt f (2 + m) then runtime_entry n (f - 2)
    else free_entry))

-- the sealed page of a page of the program
abbrev pub program_sealed : Image → ℕ → Option SealedPage
program_sealed image p =
    option_map (λ perm. sealed_page_of (added_entry (record { 0 = p }) Reg perm) (page_bytes image p)) (slice_get image.perms p)

-- the sealed page of a handle, after n pages of the program
abbrev pub sealed_so_far : Image → ℕ → ℕ → Option SealedPage
sealed_so_far image n k = if nat_lt k n then program_sealed image k else None

-- the blocks of the first pages
abbrev pub blocks_so_far : Image → ℕ → List ℕ
blocks_so_far image count =
    blocks_of (enclave_size (pages_of image)) (map (λ p. (secinfo_of image p, page_bytes image p)) (range_with_len 0 count))

-- the image has 4096 bytes for each page, each of 8 bits
pub record HasBytes (image : Image) : Type 0 where
  pub whole : IsWhole image
  pub bytes : All (λ v. v < 256) image.bytes

-- n pages of the program are sealed, m pages of the runtime are in frames, all of these are measured in their order, there is spare for
-- the other pages of the program, and nobody entered
pub record HasAdded (image : Image) (frames lps : ℕ) (encls : Enclave) (n m : ℕ) : Type 0 where
  pub count : length encls.entries ≡ frames
  pub entries : (f : ℕ) → entry_at encls.entries f ≡ entry_so_far (pages_of image) m f
  pub whole : (f : ℕ) → length (frame_at encls.frames f) ≡ 4096
  pub runtime : (i : ℕ) → i < m → frame_at encls.frames (2 + i) ≡ page_bytes image (pages_of image + i)
  pub slots : (i : ℕ) → number_at (frame_at encls.frames 1) (8 * i) 8 ≡ version (then_some (nat_lt i n) i)
  pub sealed : (k : ℕ) → sealed_page_at encls.handles k ≡ sealed_so_far image n k
  pub given : length encls.handles.sealed_pages ≡ n
  pub spare : encls.handles.spare + n ≡ pages_of image
  pub cycles : encls.track.cycles ≡ n
  pub lps_are : encls.track.lps ≡ lps
  pub unentered : HasOnlyCycled encls.track
  pub measured : HasAbsorbed encls.measure (blocks_so_far image (n + m))
