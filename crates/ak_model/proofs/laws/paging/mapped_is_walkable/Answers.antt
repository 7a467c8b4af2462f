use Rattle.ak_model.proofs.Paging.MappedIsWalkable.{walkable-strong}
use Rattle.ak_model.proofs.laws.paging.mapped_is_walkable.Goals as goal

pub returns : goal.returns
returns c = walkable-strong
