-- The frames that a processor holds while it is inside: that of the TCS by which it entered, and that of the area into which it would
-- be saved. (SDM volume 3D, "Thread Control Structure", "State Save Area".)
use Rattle.std.specs.Prelude.{◌≡◌, ℕ, ◌≤◌, true, false, List, ◌==◌}
use Rattle.ak_core.specs.Layout.{Layout}
use Rattle.ak_core.specs.declared.page.Entry.{Entry}
use Rattle.ak_model.specs.Paging.Pages.{tcs_page, ssa_page}
use Rattle.ak_epcm.specs.Entries.{entry_at, has_page}
use Rattle.ak_relation.specs.State.MachineState.{Processor}
use Rattle.ak_relation.specs.Bytes.Pages.{IsTcs}

-- by the EPCM they hold the TCS and the area for the next saved context, and they are two; the TCS says that so many contexts are saved,
-- at most two, and does not refuse resuming
pub record HoldsFrames (layout : Layout) (saved : ℕ) (entries : List Entry) (frames : ℕ → List ℕ) (processor : Processor) : Type 0 where
  pub tcs : has_page (entry_at entries processor.tcs) (tcs_page layout) ≡ true
  pub area : has_page (entry_at entries processor.ssa) (ssa_page layout saved) ≡ true
  pub apart : (processor.tcs == processor.ssa) ≡ false
  pub few : saved ≤ 2
  pub says : IsTcs saved false (frames processor.tcs)
