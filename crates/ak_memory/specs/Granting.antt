-- Which accesses a memory grants, and in which frames: those whose translation is cached, and those that a walk finds.
-- (SDM volume 3A, "Translation Lookaside Buffers (TLBs)"; SDM volume 3D, "Access-control for EPC pages".)
use Rattle.std.specs.Prelude.{◌≡◌, ℕ, Bool, true, not, List, [], ◌∷◌, ◌++◌, take, length, filter, reverse, Option, Some, None, is_some, if◌then◌else◌}
use Rattle.std.proofs.Common.{arith, length-append}
use Rattle.std.proofs.lemmas.List.{length-replicate, length-take-le}
use Rattle.std.specs.Bool.{then_some}
use Rattle.std.specs.Option.{option_or}
use Rattle.std.specs.List.{list_any, list_all}
use Rattle.ak_core.specs.Mem.{Access, access_to}
use Rattle.ak_core.specs.declared.page.Entry.{Entry}
use Rattle.ak_core.specs.declared.page.Frame.{Frame}
use Rattle.ak_core.specs.declared.page.Kind.TheVariants.{Read, Write, Exec}
use Rattle.ak_epcm.specs.Entries.{entry_at, has_page, frame_with}
use Rattle.ak_pte.specs.Table.{pte_at}
use Rattle.ak_pte.specs.declared.table.Pte.{Pte}
use Rattle.ak_tlb.specs.Fills.{Fill}
use Rattle.ak_tlb.specs.Translations.{found, frame_in}
use Rattle.ak_tlb.specs.declared.translation.Translation.{Translation}
use Rattle.ak_walk.specs.Finds.{walk_finds}
use Rattle.ak_encls.specs.Enclave.{blank_page, frame_at}

-- ---- Accesses

-- a walk finds the access
abbrev pub is_walked : List Entry → List Pte → Access → Bool
is_walked entries table t =
    let pte = pte_at table t.page.0 in walk_finds pte.flags (entry_at entries pte.frame.0) t.page.0 t.kind

-- the frame in which an access is granted, if it is: that of its cached translation, else that which a walk finds
abbrev pub granted_frame : List Entry → List Pte → List Translation → Access → Option Frame
granted_frame entries table cached t =
    option_or (frame_in (found cached t)) (then_some (is_walked entries table t) (pte_at table t.page.0).frame)

-- the access is granted
abbrev pub is_granted : List Entry → List Pte → List Translation → Access → Bool
is_granted entries table cached t = is_some (granted_frame entries table cached t)

-- some access of the page is granted
abbrev pub is_seen : List Entry → List Pte → List Translation → ℕ → Bool
is_seen entries table cached p =
    list_any (λ kind. is_some (granted_frame entries table cached (access_to p kind))) (Read ∷ Write ∷ Exec ∷ [])

-- ---- Cached translations

-- the translations by which accesses are granted, where they may use those that are cached
abbrev pub in_use : Bool → List Translation → List Translation
in_use uses_cache cached = if uses_cache then cached else []

-- the translation names a frame that holds its page
abbrev pub names_page : List Entry → Translation → Bool
names_page entries translation = has_page (entry_at entries translation.frame.0) translation.access.page.0

-- each cached translation does
abbrev pub NamesPages : List Entry → List Translation → Type 0
NamesPages entries cached = list_all (names_page entries) cached ≡ true

-- of these accesses, which are granted, those that walks found, the newest first
abbrev pub walked_of : List Translation → List Access → List Access
walked_of cached accesses = reverse (filter (λ t. not (is_some (found cached t))) accesses)

-- what a walk that finds the access caches: the frame of its entry of the page table
abbrev pub fill_by : List Pte → Access → Fill
fill_by table t = record { access = t; frame = (pte_at table t.page.0).frame.0 }

-- ---- Bytes

-- the bytes of the frame that was found
abbrev pub bytes_found : List (List ℕ) → Option ℕ → List ℕ
bytes_found frames None = blank_page
bytes_found frames (Some f) = frame_at frames f

-- the bytes of a page, by the frame that holds it; a page that none holds has zeros
abbrev pub bytes_of : List (List ℕ) → List Entry → ℕ → List ℕ
bytes_of frames entries p = bytes_found frames (frame_with entries p)

-- 4096 bytes: these, and then zeros. A frame has 4096, and stays as it is
unfoldable pub whole_page : List ℕ → List ℕ
whole_page bytes = take 4096 (bytes ++ blank_page)

length-blank_page : length blank_page ≡ 4096
unfolding blank_page
length-blank_page = length-replicate {A = ℕ} 4096 0

pub length-whole_page : (bytes : List ℕ) → length (whole_page bytes) ≡ 4096
unfolding whole_page
length-whole_page bytes =
    length-take-le 4096 (bytes ++ blank_page) (omega (arith, length-append bytes blank_page, length-blank_page))
