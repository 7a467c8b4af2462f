use Rattle.ak_relation.proofs.Flat.WordRuns.{at_words}
use Rattle.ak_relation.proofs.laws.program.values_fit.Goals as goal

pub returns : goal.returns
returns c = λ layout image returned valid bytes words. at_words layout valid image returned bytes words
