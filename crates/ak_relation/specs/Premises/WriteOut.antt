-- What a write-out does to a machine. (SDM volume 3D, EWB.)
use Rattle.std.specs.Prelude.{◌≡◌, ℕ, ◌+◌, ◌*◌, ◌<◌, false, length, Some, ◌==◌, if◌then◌else◌}
use Rattle.ak_epcm.specs.Entries.{entry_at}
use Rattle.ak_model.specs.Flat.Instructions.{number_at}
use Rattle.ak_relation.specs.State.MachineState.{State}
use Rattle.ak_relation.specs.State.TableChanges.{FreesEntry}
use Rattle.ak_sealed.specs.SealedPages.{sealed_page_of}

-- frame f is free, slot i of frame va has the version of the next handle, and that has the frame's sealed page. The bytes of f may be any
pub record WritesOutTo (old new : State) (f va i : ℕ) : Type 0 where
  pub entry : FreesEntry old.entries new.entries f
  pub others : (g : ℕ) → (g == f) ≡ false → (g == va) ≡ false → new.frames g ≡ old.frames g
  pub slot : number_at (new.frames va) (8 * i) 8 ≡ old.next + 1
  pub slots : (j : ℕ) → (j == i) ≡ false → j < 512 → number_at (new.frames va) (8 * j) 8 ≡ number_at (old.frames va) (8 * j) 8
  pub lengths : (g : ℕ) → length (new.frames g) ≡ length (old.frames g)
  pub sealed_page : (j : ℕ) →
      new.sealed_pages j ≡ (if j == old.next then Some (sealed_page_of (entry_at old.entries f) (old.frames f)) else old.sealed_pages j)
  pub next : new.next ≡ old.next + 1
  pub table : new.table ≡ old.table
  pub processors : new.processors ≡ old.processors
  pub count : new.count ≡ old.count
  pub queue : new.queue ≡ old.queue
  pub track : new.track ≡ old.track
  pub stamps : new.stamps ≡ old.stamps
