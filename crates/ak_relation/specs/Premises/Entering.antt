-- What an entering does to a machine. (SDM volume 3D, EENTER; that it clears a pending flag is the Autarky paper's.)
use Rattle.std.specs.Prelude.{◌≡◌, ℕ, true, false, [], ◌∷◌, length, ◌==◌}
use Rattle.ak_core.specs.Layout.{Layout}
use Rattle.ak_model.specs.Paging.Pages.{tcs_page, ssa_page}
use Rattle.ak_track.specs.Steps.{EntersBy}
use Rattle.ak_relation.specs.State.MachineState.{State}
use Rattle.ak_pager.specs.Contexts.{entry_regs}
use Rattle.ak_relation.specs.Bytes.Pages.{IsTcs}

-- the processor is inside, at the entry of the runtime, and holds the frames that the page table names; its TCS refuses nothing any
-- more; nothing is cached; and all else stays
pub record EntersAt (layout : Layout) (lp saved v : ℕ) (old new : State) : Type 0 where
  pub inside : (new.processors lp).inside ≡ true
  pub regs : (new.processors lp).regs ≡ entry_regs layout saved v
  pub tcs : (new.processors lp).tcs ≡ (old.table (tcs_page layout)).frame
  pub ssa : (new.processors lp).ssa ≡ (old.table (ssa_page layout saved)).frame
  pub flushed : (new.processors lp).fills ≡ []
  pub others : (q : ℕ) → (q == lp) ≡ false → new.processors q ≡ old.processors q
  pub cleared : IsTcs saved false (new.frames (old.table (tcs_page layout)).frame)
  pub frames : (g : ℕ) → (g == (old.table (tcs_page layout)).frame) ≡ false → new.frames g ≡ old.frames g
  pub whole : (g : ℕ) → length (new.frames g) ≡ 4096
  pub track : new.track ≡ EntersBy lp ∷ old.track
  pub entries : new.entries ≡ old.entries
  pub count : new.count ≡ old.count
  pub queue : new.queue ≡ old.queue
  pub stamps : new.stamps ≡ old.stamps
  pub sealed_pages : new.sealed_pages ≡ old.sealed_pages
  pub next : new.next ≡ old.next
  pub table : new.table ≡ old.table
