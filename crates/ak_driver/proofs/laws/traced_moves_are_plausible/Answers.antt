use Rattle.ak_driver.proofs.Noting.TracedMoves.{traced}
use Rattle.ak_driver.proofs.laws.traced_moves_are_plausible.Goals as goal

pub returns : goal.returns
returns c = λ layout tape moves m valid misses few. traced layout tape valid misses moves m few
