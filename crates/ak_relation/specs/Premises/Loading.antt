-- What a load does to a machine. (SDM volume 3D, ELDB and ELDU.)
use Rattle.std.specs.Prelude.{◌≡◌, ℕ, ◌*◌, ◌<◌, Bool, false, length, Some, ◌==◌, if◌then◌else◌}
use Rattle.ak_epcm.specs.Entries.{entry_at}
use Rattle.ak_model.specs.Flat.Instructions.{number_at}
use Rattle.ak_sealed.specs.SealedPages.{SealedPage, entry_of}
use Rattle.ak_relation.specs.State.MachineState.{State}

-- frame f holds the page of handle k, with its bytes, and slot i of frame va is empty. The sealed page stays
pub record LoadsFrom (old new : State) (f k va i : ℕ) (blocked : Bool) : Type 0 where
  pub sealed_page : SealedPage
  pub sealed : old.sealed_pages k ≡ Some sealed_page
  pub entry : (g : ℕ) → entry_at new.entries g ≡ (if g == f then entry_of sealed_page blocked else entry_at old.entries g)
  pub bytes : new.frames f ≡ sealed_page.bytes
  pub others : (g : ℕ) → (g == f) ≡ false → (g == va) ≡ false → new.frames g ≡ old.frames g
  pub slot : number_at (new.frames va) (8 * i) 8 ≡ 0
  pub slots : (j : ℕ) → (j == i) ≡ false → j < 512 → number_at (new.frames va) (8 * j) 8 ≡ number_at (old.frames va) (8 * j) 8
  pub lengths : (g : ℕ) → (g == f) ≡ false → length (new.frames g) ≡ length (old.frames g)
  pub stamps : (g : ℕ) → new.stamps g ≡ (if g == f then length old.track else old.stamps g)
  pub sealed_pages : new.sealed_pages ≡ old.sealed_pages
  pub next : new.next ≡ old.next
  pub table : new.table ≡ old.table
  pub processors : new.processors ≡ old.processors
  pub count : new.count ≡ old.count
  pub queue : new.queue ≡ old.queue
  pub track : new.track ≡ old.track
