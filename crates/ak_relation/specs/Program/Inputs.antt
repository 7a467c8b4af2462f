-- What an enclave is given: a layout, an image, and the values that enterings bring.
use Rattle.std.specs.Prelude.{◌≡◌, ℕ, ◌*◌, ◌^◌, ◌<◌, List, [], ◌∷◌, length, Option, Some, None}
use Rattle.ak_core.specs.Layout.{Layout, IsValid}
use Rattle.ak_model.specs.Paging.Pages.{pages}
use Rattle.ak_model.specs.Control.ControlState.{Context, Enter, Saved, Control}
use Rattle.ak_model.specs.Control.OneTurn.{Turn, Goes, Leaves}
use Rattle.ak_ssa.specs.SavedRegisters.{AreWords}
use Rattle.ak_relation.specs.Program.FlatFits.{AreBytes}

-- the value of an entry step has 64 bits
abbrev pub BringsWord : Context → Type 0
BringsWord (Enter k v) = v < 2 ^ 64
BringsWord _ = Unit {0}

-- so it has in the context inside, if there is one
abbrev pub BringsWordNow : Option Context → Type 0
BringsWordNow None = Unit {0}
BringsWordNow (Some context) = BringsWord context

-- and in each saved context
abbrev pub BringWords : List Saved → Type 0
BringWords [] = Unit {0}
BringWords (saved ∷ older) = BringsWord saved.context × BringWords older

-- the values that were returned, and those that entry steps still have, are of 64 bits
pub record HasWords (control : Control) : Type 0 where
  pub returned : AreWords control.returned
  pub saved : BringWords control.stack
  pub now : BringsWordNow control.now

-- the same of what a turn comes to
abbrev pub TurnHasWords : Turn → Type 0
TurnHasWords (Goes control) = HasWords control
TurnHasWords (Leaves exit control) = HasWords control

-- the layout is valid, the image is one of bytes with 4096 for each page of the program, and the values have 64 bits
pub record InputsStand (layout : Layout) (image : List ℕ) (control : Control) : Type 0 where
  pub valid : IsValid layout
  pub bytes : AreBytes image
  pub whole : length image ≡ 4096 * pages layout
  pub words : HasWords control
