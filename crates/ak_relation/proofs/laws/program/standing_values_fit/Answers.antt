use Rattle.ak_relation.proofs.Program.OwnWords.{flat_fits, own_words}
use Rattle.ak_relation.proofs.Program.Seen.{flat_whole}
use Rattle.ak_relation.proofs.laws.program.standing_values_fit.Goals as goal

pub returns : goal.returns
returns c = record {
  values = λ layout image past control turns state h. flat_fits layout image past control turns state h;
  whole = λ layout image past control turns state h. flat_whole layout image past control turns state h;
  registers = λ layout image past control turns state lp place h is. own_words layout image past control turns state h lp place is;
}
