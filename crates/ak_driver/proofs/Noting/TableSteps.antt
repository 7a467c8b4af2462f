-- The notes of frames and pages, step by step.
use Rattle.std.proofs.Common.{◌≡◌, ℕ, ◌+◌, ◌<◌, ◌≤◌, Bool, true, false, ◌==◌, if◌then◌else◌, List, length, get_or, set, refl, ap, sym, ◌∙◌, arith, inl, inr, get_or-set_same, get_or-set_other}
use Rattle.std.specs.Prelude.{Some, None}
use Rattle.std.proofs.lemmas.Bool.Decides.{eqb_tells}
use Rattle.std.proofs.Math.ListN.{length-set}
use Rattle.ak_core.specs.Layout.{Layout}
use Rattle.ak_core.specs.declared.page.Frame.{Frame}
use Rattle.ak_core.specs.declared.page.Flags.{Flags}
use Rattle.ak_core.specs.declared.page.Handle.{Handle}
use Rattle.ak_core.specs.declared.page.Page.{Page as PageNumber}
use Rattle.ak_model.specs.Paging.Pages.{pages}
use Rattle.ak_model.specs.Paging.Histories
use Rattle.ak_model.specs.Paging.Histories.{History}
use Rattle.ak_model.specs.Paging.Holdings
use Rattle.ak_model.specs.Paging.Holdings.{Place, InFrame, InHandle, Gone, is_page_in}
use Rattle.ak_model.specs.Paging.Frames.{held, held_after, blocked_at, blocked_after, blocks_first}
use Rattle.ak_model.specs.Paging.Handles.{place, gone_if}
use Rattle.ak_model.specs.Paging.PageTable.{pte}
use Rattle.ak_model.specs.Kernels.HonestKernel.{Copy, frame_in, frame_of, newest_copy}
use Rattle.ak_driver.specs.Changes.{told}
use Rattle.ak_driver.specs.NotedTables.{holding, free_note, frame_note, no_page, page_note, noted, PageFacts, facts, facts_after, written_out, removed, frames_after, pages_after, IsThere, AreTables}
use Rattle.ak_driver.specs.declared.changes.Change.{Change}
use Rattle.ak_driver.specs.declared.changes.Change.TheVariants.{Unchanged, Maps, Blocks, Cycles, WritesOut, Loads, Removes, MakesVa, Discards, Enters, Resumes, Exits, Interrupts}
use Rattle.ak_driver.specs.declared.tables.Held.{Held}
use Rattle.ak_driver.specs.declared.tables.Held.TheVariants.{Free, Secs, Va, Page}
use Rattle.ak_driver.specs.declared.tables.FrameNote.{FrameNote}
use Rattle.ak_driver.specs.declared.tables.PageNote.{PageNote}

-- ---- One note is set

-- what a list tells of an element after one was set
set_tells : {X Y : Type 0} (view : X → Y) (d : X) (xs : List X) (q : ℕ) (x : X) (before after : Y) (p : ℕ) → view (get_or xs p d) ≡ before
    → ((p == q) ≡ false → after ≡ before) → (p ≡ q → q < length xs) → ((p == q) ≡ true → view x ≡ after) → view (get_or (set xs q x) p d) ≡ after
set_tells view d xs q x before after p was other within same =
    elim (eqb_tells p q) [
      | inl one ↦ ap (λ i. view (get_or (set xs q x) i d)) one.1 ∙ ap view (get_or-set_same xs q x d (within one.1)) ∙ same one.0
      | inr two ↦ ap view (get_or-set_other xs q p x d two.1) ∙ was ∙ sym (other two.0)
    ]

-- a case that is taken
taken : {A : Type 0} (b : Bool) (x y : A) → b ≡ true → (if b then x else y) ≡ x
taken b x y e = ap (λ c. if c then x else y) e

-- and one that is not
passed : {A : Type 0} (b : Bool) (x y : A) → b ≡ false → (if b then x else y) ≡ y
passed b x y e = ap (λ c. if c then x else y) e

module _ (layout : Layout) (past : History) (frames : List FrameNote) (notes : List PageNote)
    (h : AreTables frames notes layout (held layout past) (blocked_at past) (facts layout past)) where
  -- ---- Pages

  -- the pages are as this change leaves them
  abbrev PagesAre : List PageNote → Histories.Change → Type 0
  PagesAre after change = (length after ≡ pages layout) × ((p : ℕ) → p < pages layout → noted (page_note after p) ≡ facts_after layout past change p)

  set_page : (change : Histories.Change) (q : ℕ) (note : PageNote)
      → ((p : ℕ) → (p == q) ≡ false → facts_after layout past change p ≡ facts layout past p)
      → ((p : ℕ) → p < pages layout → (p == q) ≡ true → noted note ≡ facts_after layout past change p)
      → PagesAre (set notes q note) change
  set_page change q note other same = (
    length-set notes q note ∙ h.count,
    λ p low. set_tells noted no_page notes q note (facts layout past p) (facts_after layout past change p) p (h.facts_are p low) (other p)
        (λ e. let n = h.count in omega arith) (same p low),
  )

  -- what was noted of the page that is set
  was : (p q : ℕ) → p < pages layout → (p == q) ≡ true → noted (page_note notes q) ≡ facts layout past p
  was p q low e =
      elim (eqb_tells p q) [
        | inl one ↦ ap (λ i. noted (page_note notes i)) (sym one.1) ∙ h.facts_are p low
        | inr two ↦ absurd (let x : true ≡ false = sym e ∙ two.0 in cc)
      ]

  mapped_pages : (q : PageNumber) (f : Frame) (flags : Flags) → PagesAre (pages_after (Maps q f flags) frames notes) (told (Maps q f flags))
  mapped_pages q f flags =
      let entry : Bool → ℕ → PageFacts =
      λ b p. record { frame = frame_of layout past p; entry = if b then record { frame = f.0; flags = flags } else pte layout past p; copy = newest_copy layout past p } in
      set_page (told (Maps q f flags)) q.0 _
      (λ p e. ap (λ b. entry b p) e)
      (λ p low e. ap (λ (x : PageFacts). record { frame = x.frame; entry = record { frame = f.0; flags = flags }; copy = x.copy }) (was p q.0 low e) ∙ sym (ap (λ b. entry b p) e))

  loaded_pages : (f : Frame) (k : Handle) (q : PageNumber) (va : Frame) (i : ℕ) (blocked : Bool)
      → PagesAre (pages_after (Loads f k q va i blocked) frames notes) (told (Loads f k q va i blocked))
  loaded_pages f k q va i blocked =
      let at : Bool → ℕ → PageFacts =
      λ b p. record { frame = frame_in (if b then InFrame f.0 else place layout past p); entry = pte layout past p; copy = newest_copy layout past p } in
      set_page (told (Loads f k q va i blocked)) q.0 _
      (λ p e. ap (λ b. at b p) e)
      (λ p low e. ap (λ (x : PageFacts). record { frame = Some f.0; entry = x.entry; copy = x.copy }) (was p q.0 low e) ∙ sym (ap (λ b. at b p) e))

  -- the page in a frame, by its note
  page_is_in : (f : ℕ) (x : Held) → holding x ≡ held layout past f → (p : ℕ) → is_page_in (held layout past f) p ≡ is_page_in (holding x) p
  page_is_in f x e p = ap (λ (y : Holdings.Held). is_page_in y p) (sym e)

  abbrev written_at : Copy → ℕ → Bool → ℕ → PageFacts
  written_at copy k b p = record {
    frame = frame_in (if b then InHandle k else place layout past p);
    entry = pte layout past p;
    copy = if b then copy else newest_copy layout past p;
  }

  written_pages : (f va : Frame) (i : ℕ) (k : Handle) (x : Held) → holding x ≡ held layout past f.0
      → PagesAre (written_out notes x (record { handle = k; va = va; slot = i })) (told (WritesOut f va i k))
  written_pages f va i k x e = by x (page_is_in f.0 x e)
    where
      none : ((p : ℕ) → is_page_in (held layout past f.0) p ≡ false) → PagesAre notes (told (WritesOut f va i k))
      none out = (h.count, λ p low. h.facts_are p low ∙ sym (ap (λ b. written_at (record { handle = k.0; va = va.0; slot = i }) k.0 b p) (out p)))

      by : (y : Held) → ((p : ℕ) → is_page_in (held layout past f.0) p ≡ is_page_in (holding y) p)
          → PagesAre (written_out notes y (record { handle = k; va = va; slot = i })) (told (WritesOut f va i k))
      by Free is = none is
      by Secs is = none is
      by Va is = none is
      by (Page q) is = set_page (told (WritesOut f va i k)) q.0 _
          (λ p e. ap (λ b. written_at (record { handle = k.0; va = va.0; slot = i }) k.0 b p) (is p ∙ e))
          (λ p low e. ap (λ (y : PageFacts). record { frame = None; entry = y.entry; copy = record { handle = k.0; va = va.0; slot = i } }) (was p q.0 low e)
          ∙ sym (ap (λ b. written_at (record { handle = k.0; va = va.0; slot = i }) k.0 b p) (is p ∙ e)))

  abbrev removed_at : Bool → ℕ → PageFacts
  removed_at b p = record { frame = frame_in (if b then Gone else place layout past p); entry = pte layout past p; copy = newest_copy layout past p }

  removed_pages : (f : Frame) (x : Held) → holding x ≡ held layout past f.0 → PagesAre (removed notes x) (told (Removes f))
  removed_pages f x e = by x (page_is_in f.0 x e)
    where
      none : ((p : ℕ) → is_page_in (held layout past f.0) p ≡ false) → PagesAre notes (told (Removes f))
      none out = (h.count, λ p low. h.facts_are p low ∙ sym (ap (λ b. removed_at b p) (out p)))

      by : (y : Held) → ((p : ℕ) → is_page_in (held layout past f.0) p ≡ is_page_in (holding y) p) → PagesAre (removed notes y) (told (Removes f))
      by Free is = none is
      by Secs is = none is
      by Va is = none is
      by (Page q) is = set_page (told (Removes f)) q.0 _
          (λ p e. ap (λ b. removed_at b p) (is p ∙ e))
          (λ p low e. ap (λ (y : PageFacts). record { frame = None; entry = y.entry; copy = y.copy }) (was p q.0 low e)
          ∙ sym (ap (λ b. removed_at b p) (is p ∙ e)))

  -- a sealed page that is given up is in no frame
  given_up : (x : Place) (k : ℕ) → frame_in (gone_if x k) ≡ frame_in x
  given_up (InFrame f) k = refl
  given_up Gone k = refl
  given_up (InHandle j) k = either (j == k)
    where
      either : (b : Bool) → frame_in (if b then Gone else InHandle j) ≡ None
      either true = refl
      either false = refl

  pages_step : (change : Change) → PagesAre (pages_after change frames notes) (told change)
  pages_step Unchanged = (h.count, h.facts_are)
  pages_step (Maps q f flags) = mapped_pages q f flags
  pages_step (Blocks f) = (h.count, h.facts_are)
  pages_step Cycles = (h.count, h.facts_are)
  pages_step (WritesOut f va i k) = written_pages f va i k (frame_note frames f.0).held (h.held_is f.0)
  pages_step (Loads f k q va i blocked) = loaded_pages f k q va i blocked
  pages_step (Removes f) = removed_pages f (frame_note frames f.0).held (h.held_is f.0)
  pages_step (MakesVa f) = (h.count, h.facts_are)
  pages_step (Discards k) = (
    h.count,
    λ p low. h.facts_are p low ∙ ap (λ o. record { frame = o; entry = pte layout past p; copy = newest_copy layout past p }) (sym (given_up (place layout past p) k.0)),
  )
  pages_step (Enters lp v) = (h.count, h.facts_are)
  pages_step (Resumes lp) = (h.count, h.facts_are)
  pages_step (Exits lp exit) = (h.count, h.facts_are)
  pages_step (Interrupts lp) = (h.count, h.facts_are)

  -- ---- Frames

  -- the frames are as this change leaves them
  abbrev FramesAre : List FrameNote → Histories.Change → Type 0
  FramesAre after change =
      (layout.frames ≤ length after) × ((f : ℕ) → holding (frame_note after f).held ≡ held_after change f (held layout past f))
      × ((f : ℕ) → (frame_note after f).blocked ≡ blocked_after change f (length past + 1) (blocked_at past f))

  set_frame : (change : Histories.Change) (g : ℕ) (note : FrameNote) → g < layout.frames
      → ((f : ℕ) → (f == g) ≡ false → held_after change f (held layout past f) ≡ held layout past f)
      → ((f : ℕ) → (f == g) ≡ true → holding note.held ≡ held_after change f (held layout past f))
      → ((f : ℕ) → (f == g) ≡ false → blocked_after change f (length past + 1) (blocked_at past f) ≡ blocked_at past f)
      → ((f : ℕ) → (f == g) ≡ true → note.blocked ≡ blocked_after change f (length past + 1) (blocked_at past f))
      → FramesAre (set frames g note) change
  set_frame change g note low other same other_block same_block =
      let n = h.room in
      let size = length-set frames g note in (
        omega arith,
        λ f. set_tells (λ (x : FrameNote). holding x.held) free_note frames g note (held layout past f) _ f (h.held_is f) (other f) (λ e. omega arith) (same f),
        λ f. set_tells (λ (x : FrameNote). x.blocked) free_note frames g note (blocked_at past f) _ f (h.blocked_is f) (other_block f) (λ e. omega arith) (same_block f),
      )

  kept : (change : Histories.Change) → ((f : ℕ) → held_after change f (held layout past f) ≡ held layout past f)
      → ((f : ℕ) → blocked_after change f (length past + 1) (blocked_at past f) ≡ blocked_at past f) → FramesAre frames change
  kept change holds blocks = (h.room, λ f. h.held_is f ∙ sym (holds f), λ f. h.blocked_is f ∙ sym (blocks f))

  -- the note of this very frame
  note_of : {Y : Type 0} (view : FrameNote → Y) (scan : ℕ → Y) (f g : ℕ) → (f == g) ≡ true → view (frame_note frames f) ≡ scan f → view (frame_note frames g) ≡ scan f
  note_of view scan f g e is =
      elim (eqb_tells f g) [
        | inl one ↦ ap (λ i. view (frame_note frames i)) (sym one.1) ∙ is
        | inr two ↦ absurd (let x : true ≡ false = sym e ∙ two.0 in cc)
      ]

  blocked_frames : (g : Frame) → g.0 < layout.frames → FramesAre (frames_after (Blocks g) (length past + 1) frames) (told (Blocks g))
  blocked_frames g low =
      set_frame (told (Blocks g)) g.0 _ low (λ f e. refl)
      (λ f e. note_of (λ (x : FrameNote). holding x.held) (held layout past) f g.0 e (h.held_is f))
      (λ f e. passed (f == g.0) _ _ e)
      (λ f e. ap (λ o. blocks_first o (length past + 1)) (note_of (λ (x : FrameNote). x.blocked) (blocked_at past) f g.0 e (h.blocked_is f)) ∙ sym (taken (f == g.0) _ _ e))

  frames_step : (change : Change) → IsThere layout (told change) → FramesAre (frames_after change (length past + 1) frames) (told change)
  frames_step Unchanged there = kept (told Unchanged) (λ f. refl) (λ f. refl)
  frames_step (Maps q f flags) there = kept (told (Maps q f flags)) (λ f. refl) (λ f. refl)
  frames_step (Blocks g) there = blocked_frames g there
  frames_step Cycles there = kept (told Cycles) (λ f. refl) (λ f. refl)
  frames_step (WritesOut g va i k) there = set_frame (told (WritesOut g va i k)) g.0 _ there
      (λ f e. passed (f == g.0) _ _ e) (λ f e. sym (taken (f == g.0) _ _ e)) (λ f e. passed (f == g.0) _ _ e) (λ f e. sym (taken (f == g.0) _ _ e))
  frames_step (Loads g k q va i blocked) there = set_frame (told (Loads g k q va i blocked)) g.0 _ there
      (λ f e. passed (f == g.0) _ _ e) (λ f e. sym (taken (f == g.0) _ _ e)) (λ f e. passed (f == g.0) _ _ e) (λ f e. sym (taken (f == g.0) _ _ e))
  frames_step (Removes g) there = set_frame (told (Removes g)) g.0 _ there
      (λ f e. passed (f == g.0) _ _ e) (λ f e. sym (taken (f == g.0) _ _ e)) (λ f e. passed (f == g.0) _ _ e) (λ f e. sym (taken (f == g.0) _ _ e))
  frames_step (MakesVa g) there = set_frame (told (MakesVa g)) g.0 _ there
      (λ f e. passed (f == g.0) _ _ e) (λ f e. sym (taken (f == g.0) _ _ e)) (λ f e. passed (f == g.0) _ _ e) (λ f e. sym (taken (f == g.0) _ _ e))
  frames_step (Discards k) there = kept (told (Discards k)) (λ f. refl) (λ f. refl)
  frames_step (Enters lp v) there = kept (told (Enters lp v)) (λ f. refl) (λ f. refl)
  frames_step (Resumes lp) there = kept (told (Resumes lp)) (λ f. refl) (λ f. refl)
  frames_step (Exits lp exit) there = kept (told (Exits lp exit)) (λ f. refl) (λ f. refl)
  frames_step (Interrupts lp) there = kept (told (Interrupts lp)) (λ f. refl) (λ f. refl)

  -- the notes after one more change
  pub tables_step : (change : Change) → IsThere layout (told change)
      → AreTables (frames_after change (length past + 1) frames) (pages_after change frames notes) layout (λ f. held_after (told change) f (held layout past f))
      (λ f. blocked_after (told change) f (length past + 1) (blocked_at past f)) (facts_after layout past (told change))
  tables_step change there =
      let a = frames_step change there in
      let b = pages_step change in
      record { room = a.0; count = b.0; held_is = a.1; blocked_is = a.2; facts_are = b.1 }
