use Rattle.ak_relation.proofs.Rows.RareMoments.{asked_witness, broken_witness, returned_witness}
use Rattle.ak_relation.proofs.laws.reached.rare_moments_stand.Goals as goal

pub returns : goal.returns
returns c = record { broken = broken_witness; asked = asked_witness; returned = returned_witness }
