-- A run with the honest kernel beside it.
use Rattle.std.specs.Prelude.{ℕ, List}
use Rattle.ak_driver.specs.Notes.{Notes}
use Rattle.ak_run.specs.Runs.{Faithful}
use Rattle.ak_top.specs.Follows.{past_of}
use Rattle.ak_top.specs.declared.session.Session.{Session}

-- the run is faithful to the image, and the kernel was told its journal
pub record IsSession (image : List ℕ) (session : Session) : Type 0 where
  pub faithful : Faithful image session.run
  pub told : Notes session.driver session.run.machine.layout (past_of session.run.journal)
