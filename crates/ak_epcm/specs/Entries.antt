-- The entries of the EPCM. (SDM volume 3D, "Enclave Page Cache Map".)
use Rattle.std.specs.Prelude.{◌≡◌, ℕ, ◌^◌, ◌<◌, Bool, true, false, ◌&&◌, List, length, Option, ◌==◌, position, slice_index_or}
use Rattle.ak_core.specs.declared.page.Entry.{Entry}
use Rattle.ak_core.specs.declared.page.PageType.{PageType}
use Rattle.ak_core.specs.declared.page.PageType.TheVariants.{Secs, Tcs, Reg, Va}

-- the entry of a frame that is not in use
abbrev pub free_entry : Entry
free_entry = record {
  valid = false;
  kind = Secs;
  page = record { 0 = 0 };
  r = false;
  w = false;
  x = false;
  blocked = false;
}

-- a frame's entry; a frame that there is not is not in use
abbrev pub entry_at : List Entry → ℕ → Entry
entry_at entries f = slice_index_or entries f free_entry

-- pages of these types are at an address of the enclave
abbrev pub is_addressed : PageType → Bool
is_addressed Reg = true
is_addressed Tcs = true
is_addressed Secs = false
is_addressed Va = false

-- the frame is in use, and holds a page of the enclave: a regular one or a TCS
abbrev pub is_of_page : Entry → Bool
is_of_page e = e.valid && is_addressed e.kind

-- the frame holds this page of the enclave
abbrev pub has_page : Entry → ℕ → Bool
has_page e p = is_of_page e && (e.page.0 == p)

-- the first frame that holds this page of the enclave, if one does
abbrev pub frame_with : List Entry → ℕ → Option ℕ
frame_with entries p = position (λ e. has_page e p) entries

-- no frame holds this page of the enclave
abbrev pub HasNoFrame : List Entry → ℕ → Type 0
HasNoFrame entries p = (f : ℕ) → has_page (entry_at entries f) p ≡ false

-- no two frames hold one page of the enclave
abbrev pub HasDistinctPages : List Entry → Type 0
HasDistinctPages entries = (f g p : ℕ)
    → has_page (entry_at entries f) p ≡ true → has_page (entry_at entries g) p ≡ true → f ≡ g

-- the entries of an EPCM: there are fewer than 2^32, and no two have one page of the enclave
pub record IsEpcm (entries : List Entry) : Type 0 where
  pub few : length entries < 2 ^ 32
  pub distinct : HasDistinctPages entries
