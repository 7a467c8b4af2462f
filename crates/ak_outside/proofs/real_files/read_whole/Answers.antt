use Rattle.std.proofs.Common.{ℕ, ◌++◌, take, arith}
use Rattle.std.proofs.lemmas.List.{length-take}
use Rattle.std.proofs.KnownBytes.{Consumes-trans}
use Rattle.ak_outside.proofs.Streams.{one_past, within_limit}
use Rattle.ak_outside.proofs.real_files.read_whole.Goals as goal

pub returns-then-count-left-clause-bytes : goal.returns-then-count-left-clause-bytes
returns-then-count-left-clause-bytes g c = (
  c.chunks.bytes.items ++ take c.in-Ok.count c.read.new.part,
  Consumes-trans _ _ _ c.chunks.bytes.items (take c.in-Ok.count c.read.new.part) c.chunks.invariant.read c.in-Ok.ensures.bytes.0,
  one_past c.chunks.bytes.items c.read.new.part c.in-Ok.count c.args.limit c.in-Ok.ensures.bound.0
      (omega (arith, length-take {A = ℕ}, c.min.ensures, c.read.auto.part, c.in-Ok.ensures.bound.0)),
)

pub returns-then-is_err-clause-bytes : goal.returns-then-is_err-clause-bytes
returns-then-is_err-clause-bytes g c = (
  c.chunks.bytes.items ++ take c.in-Ok.count c.read.new.part,
  Consumes-trans _ _ _ c.chunks.bytes.items (take c.in-Ok.count c.read.new.part) c.chunks.invariant.read c.in-Ok.ensures.bytes.0,
  within_limit c.chunks.bytes.items c.read.new.part c.in-Ok.count c.args.limit
      (omega (arith, length-take {A = ℕ}, c.min.ensures, c.read.auto.part, c.in-Ok.ensures.bound.0))
      (omega (arith, c.len.ensures, c.if-count-left.false, c.chunks.invariant.within)),
)
