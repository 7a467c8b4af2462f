-- What the code keeps of each frame and of each page of the program, and for which history.
use Rattle.std.specs.Prelude.{◌≡◌, ℕ, Bool, ◌+◌, ◌<◌, ◌≤◌, List, [], length, Option, Some, None, option_map, slice_index_or, slice_set}
use Rattle.std.specs.Bool.{then_some}
use Rattle.ak_core.specs.Layout.{Layout}
use Rattle.ak_core.specs.declared.page.Frame.{Frame}
use Rattle.ak_model.specs.Paging.Pages.{pages, no_flags}
use Rattle.ak_model.specs.Paging.Histories
use Rattle.ak_model.specs.Paging.Histories.{History}
use Rattle.ak_model.specs.Paging.Holdings
use Rattle.ak_model.specs.Paging.Holdings.{Mapping, is_free, FreeFrame, SecsFrame, VaFrame, PageFrame}
use Rattle.ak_model.specs.Paging.Build.{held_at_build}
use Rattle.ak_model.specs.Paging.Frames.{held, held_after, blocked_at, blocked_after, blocks_first}
use Rattle.ak_model.specs.Paging.Handles.{place, place_after}
use Rattle.ak_model.specs.Paging.PageTable.{pte, pte_after}
use Rattle.ak_model.specs.Kernels.HonestKernel.{Copy, copy_after, newest_copy, frame_in, frame_of}
use Rattle.ak_driver.specs.declared.changes.Change.{Change}
use Rattle.ak_driver.specs.declared.changes.Change.TheVariants.{Maps, Blocks, WritesOut, Loads, Removes, MakesVa}
use Rattle.ak_driver.specs.declared.tables.Held.{Held}
use Rattle.ak_driver.specs.declared.tables.Held.TheVariants.{Free, Secs, Va, Page}
use Rattle.ak_driver.specs.declared.tables.FrameNote.{FrameNote}
use Rattle.ak_driver.specs.declared.tables.PageNote.{PageNote}
use Rattle.ak_driver.specs.declared.tables.SealedCopy.{SealedCopy}
use Rattle.ak_driver.specs.declared.tables.Tables.{Tables}

-- ---- One frame, one page

-- what a frame holds
abbrev pub holding : Held → Holdings.Held
holding Free = FreeFrame
holding Secs = SecsFrame
holding Va = VaFrame
holding (Page p) = PageFrame p.0

-- a free frame
abbrev pub free_note : FrameNote
free_note = record { held = Free; blocked = None }

-- what is noted of a frame; one that there is not is free
abbrev pub frame_note : List FrameNote → ℕ → FrameNote
frame_note notes f = slice_index_or notes f free_note

-- the frame is noted as free
abbrev pub is_free_note : List FrameNote → ℕ → Bool
is_free_note notes f = is_free (holding (frame_note notes f).held)

-- a page that the program does not have
abbrev pub no_page : PageNote
no_page = record {
  frame = None;
  mapped = record { 0 = 0 };
  flags = no_flags;
  copy = record { handle = record { 0 = 0 }; va = record { 0 = 0 }; slot = 0 };
}

-- what is noted of a page
abbrev pub page_note : List PageNote → ℕ → PageNote
page_note notes p = slice_index_or notes p no_page

-- a frame's number
abbrev pub frame_number : Option Frame → Option ℕ
frame_number f = option_map (λ (g : Frame). g.0) f

-- the frame that a page is in, its entry, and its newest sealed copy
pub record PageFacts : Type 0 where
  pub frame : Option ℕ
  pub entry : Mapping
  pub copy : Copy

-- what a note says of its page
abbrev pub noted : PageNote → PageFacts
noted note = record {
  frame = frame_number note.frame;
  entry = record { frame = note.mapped.0; flags = note.flags };
  copy = record { handle = note.copy.handle.0; va = note.copy.va.0; slot = note.copy.slot };
}

-- ---- What a change does

-- the notes of the pages after a frame that holds this was written out
abbrev pub written_out : List PageNote → Held → SealedCopy → List PageNote
written_out notes (Page p) copy = slice_set notes p.0 (record (page_note notes p.0) { frame = None; copy = copy })
written_out notes _ copy = notes

-- the notes of the pages after a frame that holds this was freed
abbrev pub removed : List PageNote → Held → List PageNote
removed notes (Page p) = slice_set notes p.0 (record (page_note notes p.0) { frame = None })
removed notes _ = notes

-- the notes of the frames after a change, at its place
abbrev pub frames_after : Change → ℕ → List FrameNote → List FrameNote
frames_after (Blocks f) place notes =
    slice_set notes f.0 (record { held = (frame_note notes f.0).held; blocked = blocks_first (frame_note notes f.0).blocked place })
frames_after (WritesOut f va i k) place notes = slice_set notes f.0 free_note
frames_after (Loads f k p va i blocked) place notes =
    slice_set notes f.0 (record { held = Page p; blocked = then_some blocked place })
frames_after (Removes f) place notes = slice_set notes f.0 free_note
frames_after (MakesVa f) place notes = slice_set notes f.0 (record { held = Va; blocked = None })
frames_after _ place notes = notes

-- the notes of the pages after a change, where these were the notes of the frames
abbrev pub pages_after : Change → List FrameNote → List PageNote → List PageNote
pages_after (Maps p f flags) frames notes = slice_set notes p.0 (record (page_note notes p.0) { mapped = f; flags = flags })
pages_after (WritesOut f va i k) frames notes =
    written_out notes (frame_note frames f.0).held (record { handle = k; va = va; slot = i })
pages_after (Loads f k p va i blocked) frames notes = slice_set notes p.0 (record (page_note notes p.0) { frame = Some f })
pages_after (Removes f) frames notes = removed notes (frame_note frames f.0).held
pages_after _ frames notes = notes

-- the frame, or the processor that enters, is one of the layout
abbrev pub IsThere : Layout → Histories.Change → Type 0
IsThere layout (Histories.Blocks f) = f < layout.frames
IsThere layout (Histories.WritesOut f va i k) = f < layout.frames
IsThere layout (Histories.Loads f k p va i blocked) = f < layout.frames
IsThere layout (Histories.Removes f) = f < layout.frames
IsThere layout (Histories.MakesVa f) = f < layout.frames
IsThere layout (Histories.Enters lp v) = lp < layout.lps
IsThere layout (Histories.Resumes lp) = lp < layout.lps
IsThere layout _ = Unit {0}

-- ---- For which history

-- what the history tells of a page
abbrev pub facts : Layout → History → ℕ → PageFacts
facts layout past p = record { frame = frame_of layout past p; entry = pte layout past p; copy = newest_copy layout past p }

-- what it tells after one more change
abbrev pub facts_after : Layout → History → Histories.Change → ℕ → PageFacts
facts_after layout past change p = record {
  frame = frame_in (place_after layout past change p (place layout past p));
  entry = pte_after change p (pte layout past p);
  copy = copy_after layout past change p (newest_copy layout past p);
}

-- there is a note for each frame of the layout and for each page of the program, and they say this of each
pub record AreTables (frames : List FrameNote) (notes : List PageNote) (layout : Layout) (holds : ℕ → Holdings.Held) (since : ℕ → Option ℕ)
    (of_page : ℕ → PageFacts) : Type 0 where
  pub room : layout.frames ≤ length frames
  pub count : length notes ≡ pages layout
  pub held_is : (f : ℕ) → holding (frame_note frames f).held ≡ holds f
  pub blocked_is : (f : ℕ) → (frame_note frames f).blocked ≡ since f
  pub facts_are : (p : ℕ) → p < pages layout → noted (page_note notes p) ≡ of_page p

-- the notes are those of this history
abbrev pub HasTables : Tables → Layout → History → Type 0
HasTables tables layout past = AreTables tables.frames.items tables.pages.items layout (held layout past) (blocked_at past) (facts layout past)

-- and of this history with one more change
abbrev pub HasTablesAfter : Tables → Layout → History → Histories.Change → Type 0
HasTablesAfter tables layout past change =
    AreTables tables.frames.items tables.pages.items layout (λ f. held_after change f (held layout past f))
    (λ f. blocked_after change f (length past + 1) (blocked_at past f)) (facts_after layout past change)

-- ---- At the build

-- the notes of the frames at the build
pub record AreFramesAtBuild (notes : List FrameNote) (layout : Layout) : Type 0 where
  pub room : layout.frames ≤ length notes
  pub held_is : (f : ℕ) → holding (frame_note notes f).held ≡ held_at_build layout f
  pub blocked_is : (f : ℕ) → (frame_note notes f).blocked ≡ None

-- what is known of a page at the build
abbrev pub facts_at_build : ℕ → PageFacts
facts_at_build p = record {
  frame = None;
  entry = record { frame = 0; flags = no_flags };
  copy = record { handle = p; va = 1; slot = p };
}

-- the notes of the pages at the build
pub record ArePagesAtBuild (notes : List PageNote) (layout : Layout) : Type 0 where
  pub count : length notes ≡ pages layout
  pub facts_are : (p : ℕ) → p < pages layout → noted (page_note notes p) ≡ facts layout [] p
