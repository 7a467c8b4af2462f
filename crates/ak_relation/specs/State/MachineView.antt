-- The view of a machine's own tables.
use Rattle.std.specs.Prelude.{ℕ, ◌*◌, Option, Some, None, is_some, if◌then◌else◌}
use Rattle.std.specs.List.{list_any}
use Rattle.ak_core.specs.Layout.{Layout}
use Rattle.ak_core.specs.declared.page.Entry.{Entry}
use Rattle.ak_core.specs.declared.page.PageType.{PageType}
use Rattle.ak_core.specs.declared.page.PageType.TheVariants.{Secs, Tcs, Reg, Va}
use Rattle.ak_model.specs.Paging.Holdings.{Held, FreeFrame, SecsFrame, VaFrame, PageFrame}
use Rattle.ak_model.specs.Paging.Inside.{processors}
use Rattle.ak_epcm.specs.Entries.{entry_at}
use Rattle.ak_model.specs.Paging.Views.{View}
use Rattle.ak_model.specs.Flat.Instructions.{number_at}
use Rattle.ak_track.specs.Steps.{tracked_by, incomplete_by}
use Rattle.ak_sealed.specs.SealedPages.{SealedPage, handle_in}
use Rattle.ak_relation.specs.State.MachineState.{State}

-- what a frame of this type holds
abbrev pub held_by : PageType → ℕ → Held
held_by Secs p = SecsFrame
held_by Va p = VaFrame
held_by Tcs p = PageFrame p
held_by Reg p = PageFrame p

-- what a frame holds, by its entry
abbrev pub held_in : Entry → Held
held_in entry = if entry.valid then held_by entry.kind entry.page.0 else FreeFrame

-- the page of a sealed page
abbrev pub page_on : Option SealedPage → ℕ
page_on None = 0
page_on (Some sealed_page) = sealed_page.page

-- the view
abbrev pub view_in : Layout → State → View
view_in layout state = record {
  frames = layout.frames;
  held = λ f. held_in (entry_at state.entries f);
  blocked = λ f. (entry_at state.entries f).blocked;
  tracked = λ f. tracked_by layout.lps state.track (Some (state.stamps f));
  slot = λ va i. handle_in (number_at (state.frames va) (8 * i) 8);
  live = λ k. is_some (state.sealed_pages k);
  page_of = λ k. page_on (state.sealed_pages k);
  given = state.next;
  incomplete = incomplete_by layout.lps state.track;
  active = list_any (λ lp. (state.processors lp).inside) (processors layout);
}
