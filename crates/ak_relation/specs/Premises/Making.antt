-- What a new VA page does to a machine. (SDM volume 3D, EPA.)
use Rattle.std.specs.Prelude.{◌≡◌, ℕ, ◌*◌, ◌<◌, true, false, length, ◌==◌}
use Rattle.ak_core.specs.declared.page.PageType.TheVariants.{Va}
use Rattle.ak_epcm.specs.Entries.{entry_at}
use Rattle.ak_model.specs.Flat.Instructions.{number_at}
use Rattle.ak_relation.specs.State.MachineState.{State}

-- frame f is a VA page with empty slots, and all else stays
pub record MakesSlots (old new : State) (f : ℕ) : Type 0 where
  pub valid : (entry_at new.entries f).valid ≡ true
  pub kind : (entry_at new.entries f).kind ≡ Va
  pub entry : (g : ℕ) → (g == f) ≡ false → entry_at new.entries g ≡ entry_at old.entries g
  pub empty : (j : ℕ) → j < 512 → number_at (new.frames f) (8 * j) 8 ≡ 0
  pub others : (g : ℕ) → (g == f) ≡ false → new.frames g ≡ old.frames g
  pub lengths : (g : ℕ) → length (new.frames g) ≡ length (old.frames g)
  pub sealed_pages : new.sealed_pages ≡ old.sealed_pages
  pub next : new.next ≡ old.next
  pub table : new.table ≡ old.table
  pub processors : new.processors ≡ old.processors
  pub count : new.count ≡ old.count
  pub queue : new.queue ≡ old.queue
  pub track : new.track ≡ old.track
  pub stamps : new.stamps ≡ old.stamps
