-- The run that a task comes to.
use Rattle.std.specs.Prelude.{◌≡◌}
use Rattle.ak_core.specs.Layout.{Layout}
use Rattle.ak_model.specs.Sound.SoundJournal.{Sound}
use Rattle.ak_run.specs.Runs.{Faithful, RunParts}
use Rattle.ak_top.specs.Follows.{Follows}
use Rattle.ak_top.specs.declared.inputs.Inputs.{Inputs}

-- a run of these inputs in this layout: its journal has the moves of the script, it is faithful to the image, and so the journal is
-- sound
pub record IsRunOf (layout : Layout) (inputs : Inputs) (run : RunParts) : Type 0 where
  pub layout_is : run.machine.layout ≡ layout
  pub follows : Follows layout inputs.script run.journal
  pub faithful : Faithful inputs.image.bytes run
  pub sound : Sound inputs.image.bytes layout run.journal
