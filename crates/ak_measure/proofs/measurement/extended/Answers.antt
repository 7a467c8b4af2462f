-- Each write replaces the zeros in its place.
use Rattle.std.proofs.Common.{refl}
use Rattle.ak_measure.specs.Blocks.{extend_block}
use Rattle.ak_measure.proofs.measurement.extended.Goals as goal

pub returns : goal.returns
unfolding extend_block
returns c = rw (c.write_u64.ensures, c.copy_from_slice.ensures.after) refl
