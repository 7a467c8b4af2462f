use Rattle.ak_script.proofs.PrintedRead.{printed_is_read}
use Rattle.ak_script.proofs.laws.printed_scripts_read_back.Goals as goal

pub returns : goal.returns
returns c = printed_is_read
