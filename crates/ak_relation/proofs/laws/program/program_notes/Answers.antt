use Rattle.ak_relation.proofs.Exits.ToldFaults.{fault_tells, denied_tells, other_tells}
use Rattle.ak_relation.proofs.laws.program.program_notes.Goals as goal

pub returns : goal.returns
returns c = record {
  faults = λ layout lp old access mode shows. fault_tells layout lp old mode access shows;
  denied = λ layout lp old access mode shows. denied_tells layout lp old mode access shows;
  others = λ layout lp old event mode none. other_tells layout lp old mode event none;
}
