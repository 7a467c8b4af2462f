-- What the build leaves of an image of bytes, 4096 for each page of the program: tables and pages as they are at
-- the start, and nobody inside.
use Rattle.std.specs.Prelude.{◌≡◌, ℕ, ◌*◌, false, List, [], length}
use Rattle.ak_core.specs.Layout.{Layout}
use Rattle.ak_model.specs.Paging.Pages.{pages}
use Rattle.ak_model.specs.Control.ControlState.{New}
use Rattle.ak_model.specs.Flat.FlatRuns.{Flat, first_run}
use Rattle.ak_relation.specs.State.MachineState.{State}
use Rattle.ak_relation.specs.Bytes.Pages.{CopiesStand}
use Rattle.ak_relation.specs.Program.FlatFits.{AreBytes}
use Rattle.ak_relation.specs.State.Tables.{TablesStand}
use Rattle.ak_relation.specs.Relation.Stands.{copies_at}

-- the program's first state
abbrev pub first_state : Layout → List ℕ → Flat
first_state layout image = (first_run layout image []).flat

-- after the build of an image
pub record IsBuilt (layout : Layout) (image : List ℕ) (state : State) : Type 0 where
  pub bytes : AreBytes image
  pub whole : length image ≡ 4096 * pages layout
  pub tables : TablesStand layout [] state
  pub pages : CopiesStand layout New [] [] false (first_state layout image) (copies_at layout [] state)
  pub count : state.count ≡ 0
  pub queue : state.queue ≡ []
  pub outside : (lp : ℕ) → (state.processors lp).inside ≡ false
  pub flushed : (lp : ℕ) → (state.processors lp).fills ≡ []
