use Rattle.ak_enclu.proofs.Fields.{saved_written}
use Rattle.ak_enclu.proofs.tcs.set_saved.Goals as goal

pub returns : goal.returns
returns c = saved_written c.args.tcs.now c.write_u32.new.buf c.args.saved c.told-tcs c.write_u32.ensures
