-- The runs of which the laws on the honest kernel speak.
use Rattle.std.specs.Prelude.{◌≡◌, ℕ, ◌+◌, ◌≤◌, false, List, [], reverse}
use Rattle.ak_core.specs.Layout.{Layout, IsValid}
use Rattle.ak_core.specs.Journal.{Journal}
use Rattle.ak_core.specs.declared.event.Event.{Event}
use Rattle.ak_core.specs.declared.moves.Move.{Move}
use Rattle.ak_model.specs.Kernels.HonestKernel.{IsDriven}
use Rattle.ak_model.specs.Laws.Premises.{MissesFit}
use Rattle.ak_model.specs.Sound.SoundJournal.{Sound}
use Rattle.ak_model.specs.Stops.ShownStop.{has_break}

-- the frames after the first eight, which the build fills, are room for the budget
pub record IsRoomy (layout : Layout) : Type 0 where
  pub room : 8 + layout.budget ≤ layout.frames

-- these moves, the newest first, are the honest kernel's over this tape with these inputs. The machine is
-- roomy, the misses on the tape fit the layout, and the program does not break: a break stops the enclave, whatever the kernel
-- does
pub record IsHonestRun (layout : Layout) (tape : List Event) (inputs : List ℕ) (moves : List Move) : Type 0 where
  pub valid : IsValid layout
  pub roomy : IsRoomy layout
  pub misses : MissesFit layout [] tape
  pub unbroken : has_break tape ≡ false
  pub driven : IsDriven layout tape inputs moves

-- a journal of the honest kernel, with these inputs: it is sound, the machine is roomy, and each move from the build on is the one
-- that the honest kernel makes then
pub record IsHonestJournal (image : List ℕ) (layout : Layout) (journal : Journal) (inputs : List ℕ) : Type 0 where
  pub sound : Sound image layout journal
  pub roomy : IsRoomy layout
  pub driven : IsDriven layout journal.events inputs (reverse journal.moves)
