use Rattle.ak_relation.proofs.Runs.BuiltStands.{built_stands as stands}
use Rattle.ak_relation.proofs.laws.built.built_stands.Goals as goal

pub returns : goal.returns
returns c = stands
