use Rattle.ak_relation.proofs.Program.Seen.{sees}
use Rattle.ak_relation.proofs.laws.program.program_is_seen.Goals as goal

pub returns : goal.returns
returns c = λ layout image past control turns state lp place stands is mode. sees layout image past control turns state lp place stands is mode
