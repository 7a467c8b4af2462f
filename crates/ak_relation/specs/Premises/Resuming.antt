-- What a resuming does to a machine. (SDM volume 3D, ERESUME.)
use Rattle.std.specs.Prelude.{◌≡◌, ℕ, true, false, [], ◌∷◌, length, ◌==◌}
use Rattle.ak_core.specs.Layout.{Layout}
use Rattle.ak_model.specs.Paging.Pages.{tcs_page, ssa_page}
use Rattle.ak_relation.specs.State.MachineState.{State}
use Rattle.ak_track.specs.Steps.{EntersBy}
use Rattle.ak_ssa.specs.SavedRegisters.{area_regs}
use Rattle.ak_relation.specs.Bytes.Pages.{IsTcs}

-- the processor is inside, with the registers of the newest area, which it holds for the next exit, with so many areas below; its
-- TCS counts one fewer; nothing is cached; and all else stays
pub record ResumesAt (layout : Layout) (lp below : ℕ) (old new : State) : Type 0 where
  pub inside : (new.processors lp).inside ≡ true
  pub regs : (new.processors lp).regs ≡ area_regs (old.frames (old.table (ssa_page layout below)).frame)
  pub tcs : (new.processors lp).tcs ≡ (old.table (tcs_page layout)).frame
  pub ssa : (new.processors lp).ssa ≡ (old.table (ssa_page layout below)).frame
  pub flushed : (new.processors lp).fills ≡ []
  pub others : (q : ℕ) → (q == lp) ≡ false → new.processors q ≡ old.processors q
  pub counted : IsTcs below false (new.frames (old.table (tcs_page layout)).frame)
  pub frames : (g : ℕ) → (g == (old.table (tcs_page layout)).frame) ≡ false → new.frames g ≡ old.frames g
  pub whole : (g : ℕ) → length (new.frames g) ≡ 4096
  pub track : new.track ≡ EntersBy lp ∷ old.track
  pub entries : new.entries ≡ old.entries
  pub count : new.count ≡ old.count
  pub queue : new.queue ≡ old.queue
  pub stamps : new.stamps ≡ old.stamps
  pub sealed_pages : new.sealed_pages ≡ old.sealed_pages
  pub next : new.next ≡ old.next
  pub table : new.table ≡ old.table
