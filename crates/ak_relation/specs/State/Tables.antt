-- The part of the relation on tables: what the machine keeps for frames, slots, handles, the page table and tracking is what the
-- history says. Each record takes the scans of the history that it reads, and no history, so that a move which leaves these scans
-- leaves the record.
use Rattle.std.specs.Prelude.{◌≡◌, ◌≢◌, ℕ, ◌+◌, ◌*◌, ◌<◌, Bool, true, false, List, ◌++◌, length, replicate, Option, Some, None, is_some}
use Rattle.ak_core.specs.Layout.{Layout}
use Rattle.ak_core.specs.declared.page.Entry.{Entry}
use Rattle.ak_core.specs.declared.page.Kind.TheVariants.{Read, Write, Exec}
use Rattle.ak_model.specs.Paging.Pages.{all_pages, permits, tcs_page}
use Rattle.ak_model.specs.Paging.Histories.{History}
use Rattle.ak_model.specs.Paging.Holdings.{Held, VaFrame, Mapping}
use Rattle.ak_model.specs.Paging.Frames.{held, blocked_at}
use Rattle.ak_model.specs.Paging.Handles.{given, page_of, live, slot}
use Rattle.ak_model.specs.Paging.PageTable.{pte}
use Rattle.ak_model.specs.Paging.Inside.{since}
use Rattle.ak_model.specs.Laws.OneLiveCopy.{OneCopy}
use Rattle.ak_epcm.specs.Entries.{entry_at}
use Rattle.ak_walk.specs.Agrees.{EntryAgrees, type_of_page}
use Rattle.ak_relation.specs.State.TrackSteps.{steps_of, stamp_of}
use Rattle.ak_model.specs.Flat.Instructions.{number_at}
use Rattle.ak_track.specs.Steps.{TrackStep, Cycled}
use Rattle.ak_sealed.specs.SealedPages.{SealedPage, version}
use Rattle.ak_relation.specs.State.MachineState.{Processor, State}

-- each entry of the EPCM says what its frame holds, and whether that is blocked
pub record EntriesStand (layout : Layout) (entries : List Entry) (held : ℕ → Held) (blocked_at : ℕ → Option ℕ) : Type 0 where
  pub entry : (f : ℕ) → EntryAgrees layout (entry_at entries f) (held f) (blocked_at f)

-- each slot of a VA frame holds the version of its handle
pub record SlotsStand (frames : ℕ → List ℕ) (held : ℕ → Held) (slot : ℕ → ℕ → Option ℕ) : Type 0 where
  pub versions : (va i : ℕ) → held va ≡ VaFrame → i < 512 → number_at (frames va) (8 * i) 8 ≡ version (slot va i)

-- the sealed page is one of this page: of its kind, and with its permission. What the TCS page allows is left open
pub record IsSealedPageOf (layout : Layout) (sealed_page : SealedPage) (p : ℕ) : Type 0 where
  pub page : sealed_page.page ≡ p
  pub kind : sealed_page.kind ≡ type_of_page layout p
  pub readable : p ≢ tcs_page layout → sealed_page.r ≡ permits layout p Read
  pub writable : p ≢ tcs_page layout → sealed_page.w ≡ permits layout p Write
  pub executable : p ≢ tcs_page layout → sealed_page.x ≡ permits layout p Exec
  pub whole : length sealed_page.bytes ≡ 4096

-- there is a sealed page just where the handle is live, and it is one of the handle's page
abbrev pub SealedPageAgrees : Layout → Option SealedPage → Bool → ℕ → Type 0
SealedPageAgrees layout None live p = live ≡ false
SealedPageAgrees layout (Some sealed_page) live p = (live ≡ true) × IsSealedPageOf layout sealed_page p

-- each handle's sealed page, and the next handle
pub record SealedPagesStand (layout : Layout) (sealed_pages : ℕ → Option SealedPage) (next : ℕ) (live : ℕ → Bool) (page_of : ℕ → ℕ) (given : ℕ) : Type 0 where
  pub sealed_page : (k : ℕ) → SealedPageAgrees layout (sealed_pages k) (live k) (page_of k)
  pub numbered : next ≡ given

-- the page table has each page's entry, as last set
pub record MappingStands (layout : Layout) (table : ℕ → Mapping) (pte : ℕ → Mapping) : Type 0 where
  pub mapped : (p : ℕ) → p < all_pages layout → table p ≡ pte p

-- each processor is inside just where the history says so
pub record PresenceStands (processors : ℕ → Processor) (since : ℕ → Option ℕ) : Type 0 where
  pub within : (lp : ℕ) → (processors lp).inside ≡ is_some (since lp)

-- tracking stands for the steps of the history, over those of the build, and each blocked frame's stamp is theirs
pub record TrackingStands (track : List TrackStep) (stamps : ℕ → ℕ) (steps : List TrackStep) (stamp_of : ℕ → Option ℕ) : Type 0 where
  pub built : ℕ  -- the cycles of the build
  pub steps_are : track ≡ steps ++ replicate built Cycled
  pub stamped : (f s : ℕ) → stamp_of f ≡ Some s → stamps f ≡ built + s

-- each frame has 4096 bytes
pub record FramesStand (frames : ℕ → List ℕ) : Type 0 where
  pub whole : (f : ℕ) → length (frames f) ≡ 4096

-- all tables
pub record TablesStand (layout : Layout) (past : History) (state : State) : Type 0 where
  pub entries : EntriesStand layout state.entries (held layout past) (blocked_at past)
  pub slots : SlotsStand state.frames (held layout past) (slot layout past)
  pub sealed_pages : SealedPagesStand layout state.sealed_pages state.next (live layout past) (page_of layout past) (given layout past)
  pub mapping : MappingStands layout state.table (pte layout past)
  pub presence : PresenceStands state.processors (since past)
  pub tracking : TrackingStands state.track state.stamps (steps_of past) (stamp_of past)
  pub frames : FramesStand state.frames
  pub one_copy : OneCopy layout past  -- no page has two live copies
