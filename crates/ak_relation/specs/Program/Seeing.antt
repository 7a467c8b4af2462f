-- What a processor sees of the program: its registers, and the bytes of each page that a walk finds or that is cached.
use Rattle.std.specs.Prelude.{◌≡◌, ℕ, ◌*◌, ◌<◌, ◌≤◌, true, List, [], ◌∷◌, length}
use Rattle.ak_core.specs.Layout.{Layout}
use Rattle.ak_core.specs.declared.page.Kind.{Kind}
use Rattle.ak_model.specs.Paging.Pages.{pages}
use Rattle.ak_model.specs.Flat.FlatRuns.{Flat, page_bytes}
use Rattle.ak_tlb.specs.Fills.{Fill}
use Rattle.ak_relation.specs.State.MachineState.{State}
use Rattle.ak_relation.specs.Premises.EnterRows.{walk_in}

-- each cached translation names a frame with the program's bytes
abbrev pub SeenFills : Layout → State → Flat → List Fill → Type 0
SeenFills layout state flat [] = Unit {0}
SeenFills layout state flat (fill ∷ fills) =
    (fill.access.page.0 < pages layout → state.frames fill.frame ≡ page_bytes flat fill.access.page.0) × SeenFills layout state flat fills

-- the processor sees the program at this flat state, which has all bytes of the program's pages
pub record Sees (layout : Layout) (state : State) (lp : ℕ) (flat : Flat) : Type 0 where
  pub regs : (state.processors lp).regs ≡ flat.regs
  pub walked : (p : ℕ) (kind : Kind) → p < pages layout → walk_in layout state p kind ≡ true → state.frames (state.table p).frame ≡ page_bytes flat p
  pub cached : SeenFills layout state flat (state.processors lp).fills
  pub whole : 4096 * pages layout ≤ length flat.bytes
