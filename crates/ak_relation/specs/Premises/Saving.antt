-- What an asynchronous exit does to a machine. (SDM volume 3D, "Asynchronous Enclave Exit".)
use Rattle.std.specs.Prelude.{◌≡◌, ℕ, ◌+◌, Bool, false, List, [], ◌∷◌, length, Option, Some, None, ◌==◌, if◌then◌else◌}
use Rattle.ak_core.specs.Layout.{Layout}
use Rattle.ak_core.specs.declared.registers.Mode.{Mode}
use Rattle.ak_model.specs.Paging.Pages.{cluster_at}
use Rattle.ak_model.specs.Clusters.Queue.{is_in}
use Rattle.ak_model.specs.Flat.FlatRuns.{is_forbidden}
use Rattle.ak_model.specs.Laws.Orderly.{after_miss_if}
use Rattle.ak_ssa.specs.SavedFrames.{SavedCause, NoCause, ByVector, ByPage, area_place, HasFrame}
use Rattle.ak_ssa.specs.SavedRegisters.{AreRegs}
use Rattle.ak_ssa.specs.FramesFit.{CauseFits}
use Rattle.ak_track.specs.Steps.{LeavesBy}
use Rattle.ak_relation.specs.State.MachineState.{State}
use Rattle.ak_relation.specs.Bytes.Pages.{IsTcs}

-- the cluster that an exit of the program with this cause misses: that of a permitted access, where it is out
abbrev pub missed_in : Layout → List ℕ → SavedCause → Mode → Option ℕ
missed_in layout queue NoCause mode = None
missed_in layout queue (ByVector v) mode = None
missed_in layout queue (ByPage t) Mode.Runtime = None
missed_in layout queue (ByPage t) Mode.Program =
    if is_forbidden layout t then None
    else (if is_in queue (cluster_at layout t.page.0) then None else Some (cluster_at layout t.page.0))

-- the processor's registers are in its area, with this cause, which fits; the runtime's have 64 bits, as the program's have; the TCS
-- says that one more context is saved; nothing is cached; and all else stays
pub record Saves (layout : Layout) (lp saved : ℕ) (pending : Bool) (cause : SavedCause) (old new : State) : Type 0 where
  pub area : HasFrame layout area_place (new.frames (old.processors lp).ssa) (record { regs = (old.processors lp).regs; cause = cause })
  pub words : (old.processors lp).regs.mode ≡ Mode.Runtime → AreRegs (old.processors lp).regs
  pub fits : CauseFits layout cause
  pub tcs : IsTcs (saved + 1) pending (new.frames (old.processors lp).tcs)
  pub frames : (g : ℕ) → (g == (old.processors lp).tcs) ≡ false → (g == (old.processors lp).ssa) ≡ false → new.frames g ≡ old.frames g
  pub whole : (g : ℕ) → length (new.frames g) ≡ 4096
  pub left : (new.processors lp).inside ≡ false
  pub flushed : (new.processors lp).fills ≡ []
  pub others : (q : ℕ) → (q == lp) ≡ false → new.processors q ≡ old.processors q
  pub track : new.track ≡ LeavesBy lp ∷ old.track
  pub entries : new.entries ≡ old.entries
  pub count : new.count ≡ old.count
  pub queue : new.queue ≡ after_miss_if layout old.queue (missed_in layout old.queue cause (old.processors lp).regs.mode)
  pub stamps : new.stamps ≡ old.stamps
  pub sealed_pages : new.sealed_pages ≡ old.sealed_pages
  pub next : new.next ≡ old.next
  pub table : new.table ≡ old.table
