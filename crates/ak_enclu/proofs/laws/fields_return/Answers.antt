use Rattle.std.proofs.Common.{false}
use Rattle.ak_enclu.proofs.Fields.{flagged, counted, exited}
use Rattle.ak_enclu.proofs.laws.fields_return.Goals as goal

pub returns : goal.returns
returns c = record { cleared = λ saved pending bytes. flagged saved pending false bytes; counted = counted; exited = exited }
