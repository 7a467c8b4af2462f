use Rattle.ak_relation.proofs.Runs.TracedMoves.{moves_are_traced as traced}
use Rattle.ak_relation.proofs.laws.runs.moves_are_traced.Goals as goal

pub returns : goal.returns
returns c = traced
