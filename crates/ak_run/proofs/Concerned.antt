-- A move concerns no page but the one that it names and the one in the frame that it would block, empty or fill.
use Rattle.std.proofs.Common.{◌≡◌, ℕ, Bool, true, false, List, refl, ap, sym, ◌∙◌}
use Rattle.std.specs.Prelude.{◌&&◌, ◌||◌, ◌==◌, Option, Some, None, if◌then◌else◌}
use Rattle.ak_core.specs.Layout.{Layout}
use Rattle.ak_core.specs.declared.moves.Answer.{Answer}
use Rattle.ak_core.specs.declared.moves.Move.{Move}
use Rattle.ak_core.specs.declared.moves.Move.TheVariants.{SetPte, ReadPte, Eblock, Etrack, Ewb, Eldu, Eldb, Eremove, Epa, Discard, Eenter, Eresume, Run, Interrupt}
use Rattle.ak_core.specs.declared.page.Entry.{Entry}
use Rattle.ak_core.specs.declared.page.Frame.{Frame}
use Rattle.ak_core.specs.declared.page.PageType.TheVariants.{Tcs, Reg}
use Rattle.ak_epcm.specs.Entries.{entry_at, is_addressed, is_of_page}
use Rattle.ak_model.specs.Laws.ConcernedPages.{concerns}
use Rattle.ak_model.specs.Paging.Histories.{Change, change, Maps, Blocks, WritesOut, Loads, Removes, MakesVa, Exits}
use Rattle.ak_model.specs.Paging.Holdings.{Held, FreeFrame, SecsFrame, VaFrame, PageFrame, is_page_in}
use Rattle.ak_model.proofs.Paging.ChangesByAnswer.{exit_holds, handle_holds, ok_holds}
use Rattle.ak_walk.specs.Agrees.{EntryAgrees}
use Rattle.ak_run.specs.Watching.{framed_by, is_page, named_by, page_in}

-- ---- The page in a frame

-- the page of an entry that is of none
of_none : (entry : Entry) (p : ℕ) → is_of_page entry ≡ false → is_page (page_in entry) p ≡ false
of_none entry p h = ap (λ (b : Bool). is_page (if b then Some entry.page else None) p) h

-- the page of an entry that is of one
of_some : (entry : Entry) (p : ℕ) → is_of_page entry ≡ true → is_page (page_in entry) p ≡ (p == entry.page.0)
of_some entry p h = ap (λ (b : Bool). is_page (if b then Some entry.page else None) p) h

unused : (valid addressed : Bool) → valid ≡ false → (valid && addressed) ≡ false
unused false addressed h = refl
unused true addressed h = cc

both : (valid addressed : Bool) → valid ≡ true → addressed ≡ true → (valid && addressed) ≡ true
both true true _ _ = refl
both false addressed h _ = cc
both true false _ h = cc

second : (valid addressed : Bool) → addressed ≡ false → (valid && addressed) ≡ false
second false addressed h = refl
second true addressed h = h

addressed_page : (b : Bool) → is_addressed (if b then Tcs else Reg) ≡ true
addressed_page true = refl
addressed_page false = refl

-- it is the one that the frame holds
pub entry_page : (layout : Layout) (entry : Entry) (h : Held) (since : Option ℕ) (p : ℕ) → EntryAgrees layout entry h since → is_page (page_in entry) p ≡ is_page_in h p
entry_page layout entry FreeFrame since p agrees = of_none entry p (unused entry.valid (is_addressed entry.kind) agrees)
entry_page layout entry SecsFrame since p agrees = of_none entry p (second entry.valid (is_addressed entry.kind) (ap is_addressed agrees.kind))
entry_page layout entry VaFrame since p agrees = of_none entry p (second entry.valid (is_addressed entry.kind) (ap is_addressed agrees.kind))
entry_page layout entry (PageFrame q) since p agrees =
    of_some entry p (both entry.valid (is_addressed entry.kind) agrees.valid (ap is_addressed agrees.kind ∙ addressed_page _)) ∙ ap (λ x. p == x) agrees.page

-- ---- The pages that a move concerns

neither : (a b : Bool) → a ≡ false → b ≡ false → (a || b) ≡ false
neither false b _ h = h
neither true b h _ = cc

module _ (entries : List Entry) (held : ℕ → Held) (p : ℕ) (holds : (f : ℕ) → is_page (page_in (entry_at entries f)) p ≡ is_page_in (held f) p) where
  in_frame : (f : Frame) → is_page (page_in (entry_at entries f.0)) p ≡ false → is_page_in (held f.0) p ≡ false
  in_frame f h = sym (holds f.0) ∙ h

  -- no change concerns the page
  abbrev Passes : Change → Type 0
  Passes c = concerns held c p ≡ false

  pub not_concerned : (m : Move) (a : Answer) → is_page (named_by m) p ≡ false → is_page (framed_by entries m) p ≡ false → Passes (change m a)
  not_concerned (SetPte q f flags) a named framed = ok_holds Passes refl a (Maps q.0 f.0 flags) (λ ok. named)
  not_concerned (ReadPte q) a named framed = refl
  not_concerned (Eblock f) a named framed = ok_holds Passes refl a (Blocks f.0) (λ ok. in_frame f framed)
  not_concerned Etrack a named framed = ok_holds Passes refl a _ (λ ok. refl)
  not_concerned (Ewb f va i) a named framed = handle_holds Passes refl a (λ k. WritesOut f.0 va.0 i k) (λ k ok. in_frame f framed)
  not_concerned (Eldu f k q va i) a named framed =
      ok_holds Passes refl a (Loads f.0 k.0 q.0 va.0 i false) (λ ok. neither (p == q.0) (is_page_in (held f.0) p) named (in_frame f framed))
  not_concerned (Eldb f k q va i) a named framed =
      ok_holds Passes refl a (Loads f.0 k.0 q.0 va.0 i true) (λ ok. neither (p == q.0) (is_page_in (held f.0) p) named (in_frame f framed))
  not_concerned (Eremove f) a named framed = ok_holds Passes refl a (Removes f.0) (λ ok. in_frame f framed)
  not_concerned (Epa f) a named framed = ok_holds Passes refl a (MakesVa f.0) (λ ok. in_frame f framed)
  not_concerned (Discard k) a named framed = ok_holds Passes refl a _ (λ ok. refl)
  not_concerned (Eenter lp v) a named framed = ok_holds Passes refl a _ (λ ok. refl)
  not_concerned (Eresume lp) a named framed = ok_holds Passes refl a _ (λ ok. refl)
  not_concerned (Run lp n) a named framed = exit_holds Passes refl a (λ exit. Exits lp.0 exit) (λ exit. refl)
  not_concerned (Interrupt lp) a named framed = ok_holds Passes refl a _ (λ ok. refl)
