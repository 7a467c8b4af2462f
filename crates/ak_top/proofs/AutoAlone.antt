-- A run whose script leaves every move to the honest kernel, on a roomy machine.
use Rattle.std.proofs.Common.{◌≡◌, sym, subst, true}
use Rattle.std.specs.Prelude.{None}
use Rattle.ak_core.specs.Layout.{Layout}
use Rattle.ak_driver.specs.EndingExits.{last_is_result}
use Rattle.ak_driver.specs.HonestRuns.{IsRoomy, IsHonestJournal}
use Rattle.ak_driver.proofs.Keeping.HonestJournals.{unstopped, ends_at_the_end}
use Rattle.ak_model.specs.Kernels.HonestKernel.{drive}
use Rattle.ak_model.specs.Paging.Histories.{History}
use Rattle.ak_run.specs.Runs.{RunParts}
use Rattle.ak_top.specs.Follows.{IsAutoAlone, past_of}
use Rattle.ak_top.specs.Served.{IsRunOf}
use Rattle.ak_top.specs.declared.inputs.Inputs.{Inputs}
use Rattle.ak_top.proofs.Driven.{script_driven}
use Rattle.ak_top.proofs.Pasts.{tells_trace}

module _ (layout : Layout) (inputs : Inputs) (run : RunParts) (is : IsRunOf layout inputs run) (roomy : IsRoomy layout) (alone : IsAutoAlone inputs.script) where
  -- its journal is honest
  pub is_honest : IsHonestJournal inputs.image.bytes layout run.journal inputs.script.inputs
  is_honest = record {
    sound = is.sound;
    roomy = roomy;
    driven = script_driven inputs.image.bytes layout run.journal inputs.script is.sound alone is.follows;
  }

  -- so there is no stop in it
  pub never_stops : run.journal.stop ≡ None
  never_stops = unstopped inputs.image.bytes layout run.journal inputs.script.inputs is_honest

  -- and the kernel has no move left only where the program ended or was trapped
  pub ends_with_the_program : drive layout (past_of run.journal) inputs.script.inputs ≡ None → last_is_result (past_of run.journal) ≡ true
  ends_with_the_program =
      let E : History → Type 0 = λ past. drive layout past inputs.script.inputs ≡ None → last_is_result past ≡ true in
      subst E (sym (tells_trace inputs.image.bytes layout run.journal is.sound))
      (ends_at_the_end inputs.image.bytes layout run.journal inputs.script.inputs is_honest)
