use Rattle.ak_script.proofs.Limits.{read_keeps_limits}
use Rattle.ak_script.proofs.laws.read_scripts_keep_limits.Goals as goal

pub returns : goal.returns
returns c = read_keeps_limits
