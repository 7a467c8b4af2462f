use Rattle.ak_exec.proofs.Products.{overflow_is, bits_are}
use Rattle.ak_exec.proofs.alu.product.Goals as goal

pub returns : goal.returns
returns c = record {
  value = bits_are c.args.a c.args.b _ _ _ _ c.ranges.a.fits c.ranges.b.fits c.cast_signed.ensures c.cast_signed-2.ensures c.overflowing_mul-product.ensures.value c.cast_unsigned.ensures;
  overflow = overflow_is c.args.a c.args.b _ _ _ c.ranges.a.fits c.ranges.b.fits c.cast_signed.ensures c.cast_signed-2.ensures c.overflowing_mul-product.ensures.overflow;
}
