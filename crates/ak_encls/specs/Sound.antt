-- What holds of every enclave: its lists have one element for each frame, and no page has two live copies. (SDM volume 3D, EWB,
-- "Version Array".)
use Rattle.std.specs.Prelude.{◌≡◌, ℕ, ◌*◌, ◌<◌, Bool, true, false, ◌&&◌, List, length, nat_lt, Option, Some, None, if◌then◌else◌}
use Rattle.std.specs.Option.{option_map}
use Rattle.ak_core.specs.declared.page.Entry.{Entry}
use Rattle.ak_core.specs.declared.page.PageType.{PageType}
use Rattle.ak_core.specs.declared.page.PageType.TheVariants.{Secs, Tcs, Reg, Va}
use Rattle.ak_epcm.specs.Entries.{entry_at, is_addressed, HasNoFrame}
use Rattle.ak_model.specs.Flat.Instructions.{number_at}
use Rattle.ak_sealed.specs.SealedPages.{SealedPage, Handles, handle_in, sealed_page_at}
use Rattle.ak_track.specs.declared.track.Stamp.{Stamp}
use Rattle.ak_encls.specs.Enclave.{frame_at}

abbrev pub is_va_type : PageType → Bool
is_va_type Va = true
is_va_type Secs = false
is_va_type Tcs = false
is_va_type Reg = false

-- the frame is a VA page that has this slot
abbrev pub is_slot : Entry → ℕ → Bool
is_slot entry i = (entry.valid && is_va_type entry.kind) && nat_lt i 512

-- the handle whose version is in a slot of a VA page, by the frame's entry and bytes
abbrev pub slot_by : Entry → List ℕ → ℕ → Option ℕ
slot_by entry bytes i = if is_slot entry i then handle_in (number_at bytes (8 * i) 8) else None

abbrev pub slot_in : List Entry → List (List ℕ) → ℕ → ℕ → Option ℕ
slot_in entries frames va i = slot_by (entry_at entries va) (frame_at frames va) i

-- the sealed page of a handle
abbrev pub sealed_in : Handles → Option ℕ → Option SealedPage
sealed_in handles None = None
sealed_in handles (Some k) = sealed_page_at handles k

-- the page that is sealed under the handle of a slot
abbrev pub page_in : (ℕ → ℕ → Option ℕ) → Handles → ℕ → ℕ → Option ℕ
page_in slots handles va i = option_map (λ sealed_page. sealed_page.page) (sealed_in handles (slots va i))

-- these slots name these sealed pages: each handle in one was given, and the page of a live one is in no frame and under no other slot
pub record AreVersions (slots : ℕ → ℕ → Option ℕ) (handles : Handles) (entries : List Entry) : Type 0 where
  pub given : (va i k : ℕ) → slots va i ≡ Some k → k < length handles.sealed_pages
  pub away : (va i p : ℕ) → page_in slots handles va i ≡ Some p → HasNoFrame entries p
  pub apart : (va i wa j p : ℕ) → page_in slots handles va i ≡ Some p → page_in slots handles wa j ≡ Some p → (va ≡ wa) × (i ≡ j)
  pub addressed : (k : ℕ) (sealed_page : SealedPage) → sealed_page_at handles k ≡ Some sealed_page → is_addressed sealed_page.kind ≡ true

-- an enclave of these parts
pub record IsSound (entries : List Entry) (frames : List (List ℕ)) (stamps : List Stamp) (handles : Handles) : Type 0 where
  pub each_frame : length frames ≡ length entries
  pub each_stamp : length stamps ≡ length entries
  pub versions : AreVersions (slot_in entries frames) handles entries
