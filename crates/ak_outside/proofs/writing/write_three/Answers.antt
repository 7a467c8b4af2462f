use Rattle.ak_outside.proofs.Fronts.{then_front}
use Rattle.ak_outside.proofs.writing.write_three.Goals as goal

pub returns-in-Err-write-clause-err : goal.returns-in-Err-write-clause-err
returns-in-Err-write-clause-err g c = then_front _ _ _ _ _ c.in_default.ensures.ok c.in-Err-write.ensures.err
