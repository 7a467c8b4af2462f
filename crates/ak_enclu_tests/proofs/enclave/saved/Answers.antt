use Rattle.std.proofs.Common.{◌∙◌}
use Rattle.ak_enclu.proofs.Fields.{saved_read}
use Rattle.ak_enclu_tests.proofs.enclave.saved.Goals as goal

pub returns : goal.returns
returns c = c.read_u32.ensures ∙ saved_read c.args.tcs.now
