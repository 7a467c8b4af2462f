-- What the relation sees of a machine: its tables, sealed pages, bytes and processors, as plain values.
use Rattle.std.specs.Prelude.{ℕ, Bool, List, Option, Some, None, option_map}
use Rattle.ak_core.specs.declared.page.Entry.{Entry}
use Rattle.ak_core.specs.declared.registers.Regs.{Regs}
use Rattle.ak_model.specs.Paging.Holdings.{Place, InFrame, InHandle, Gone, Mapping}
use Rattle.ak_tlb.specs.Fills.{Fill}
use Rattle.ak_sealed.specs.SealedPages.{SealedPage}
use Rattle.ak_track.specs.Steps.{TrackStep}

-- a logical processor
pub record Processor : Type 0 where
  pub inside : Bool
  pub regs : Regs
  pub tcs : ℕ  -- the frame of the TCS by which it entered
  pub ssa : ℕ  -- the frame of the area into which it would be saved
  pub fills : List Fill  -- what was cached since the last flush, the newest first

-- a machine
pub record State : Type 0 where
  pub entries : List Entry  -- the EPCM
  pub stamps : ℕ → ℕ  -- of each blocked frame, how many tracking steps stood before
  pub track : List TrackStep  -- the steps that tracking stands for, the newest first
  pub frames : ℕ → List ℕ  -- the bytes of each frame
  pub sealed_pages : ℕ → Option SealedPage  -- the sealed page of each live handle
  pub next : ℕ  -- the next handle
  pub table : ℕ → Mapping  -- the page table
  pub processors : ℕ → Processor
  pub count : ℕ  -- the program's completed instructions
  pub queue : List ℕ  -- the clusters that are in by the misses so far

-- the bytes of a place, if it has any
abbrev pub copy : State → Place → Option (List ℕ)
copy state (InFrame f) = Some (state.frames f)
copy state (InHandle k) = option_map (λ sealed_page. sealed_page.bytes) (state.sealed_pages k)
copy state Gone = None
