use Rattle.ak_model.proofs.Kernels.NoBreakOnTape.{journal-unbroken, journal-unstopped, journal-unshown}
use Rattle.ak_model.proofs.laws.kernels.no_break_on_tape.Goals as goal

pub returns : goal.returns
returns c = record {
  unbroken = λ image layout journal sound kept. journal-unbroken image layout journal sound kept;
  unstopped = λ image layout journal sound kept. journal-unstopped image layout journal sound kept;
  unseen = λ image layout journal sound kept. journal-unshown image layout journal sound kept;
}
