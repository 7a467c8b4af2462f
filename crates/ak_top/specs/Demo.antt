-- The run of a number.
use Rattle.std.specs.Prelude.{◌≡◌, ℕ, [], None, true}
use Rattle.std.specs.List.{list_all}
use Rattle.ak_core.specs.Layout.{Layout}
use Rattle.ak_driver.specs.EndingExits.{last_is_result}
use Rattle.ak_image.specs.Image.{layout_of}
use Rattle.ak_gen.specs.Generated.{generated}
use Rattle.ak_model.specs.Kernels.HonestKernel.{drive}
use Rattle.ak_model.specs.Kernels.Repeats.{is_done}
use Rattle.ak_model.specs.Laws.IdealMisses.{MissesAreIdeal}
use Rattle.ak_model.specs.Sound.SoundJournal.{Sound}
use Rattle.ak_run.specs.Runs.{Faithful, RunParts}
use Rattle.ak_top.specs.Follows.{Drives, past_of}

-- the layout of the enclave of a number's image: on one frame for each page that may be in, beside the first eight, and one processor
abbrev pub layout_by : ℕ → Layout
layout_by number = layout_of (generated number) 136 1

-- a run of a number's image in that layout: from the build on, its journal has up to 20,000 moves of the honest kernel, with no inputs
-- for the program, and fewer only where the kernel has none left; it is faithful to the image, and so the journal is sound. No stop is
-- in it, each miss is one that the program's own accesses force, each move is done, and the kernel has no move left only where the
-- program ended or was trapped
pub record IsDemoOf (number : ℕ) (run : RunParts) : Type 0 where
  pub layout_is : run.machine.layout ≡ layout_by number
  pub drives : Drives (layout_by number) [] 20000 [] (past_of run.journal)
  pub faithful : Faithful (generated number).bytes run
  pub sound : Sound (generated number).bytes (layout_by number) run.journal
  pub unstopped : run.journal.stop ≡ None
  pub ideal : MissesAreIdeal (generated number).bytes (layout_by number) run.journal
  pub done : list_all is_done run.journal.answers ≡ true
  pub ends : drive (layout_by number) (past_of run.journal) [] ≡ None → last_is_result (past_of run.journal) ≡ true
