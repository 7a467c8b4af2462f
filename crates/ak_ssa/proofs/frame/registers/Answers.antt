use Rattle.ak_ssa.proofs.Words.{words_read}
use Rattle.ak_ssa.proofs.frame.registers.Goals as goal

pub returns : goal.returns
returns c = words_read 16 c.args.bytes.now c.read_u64_into.new.dst c.read_u64_into.auto.dst c.read_u64_into.ensures
