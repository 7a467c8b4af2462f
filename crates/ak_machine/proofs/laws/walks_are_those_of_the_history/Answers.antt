use Rattle.ak_machine.proofs.Walks.{tcs_found_is, walked_is}
use Rattle.ak_machine.proofs.laws.walks_are_those_of_the_history.Goals as goal

pub returns : goal.returns
returns c = record { page = walked_is; tcs = tcs_found_is }
