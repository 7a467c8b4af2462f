use Rattle.std.proofs.Common.{arith}
use Rattle.ak_outside.proofs.Streams.{Appends-more, written_more}
use Rattle.ak_outside.proofs.real_sink.write_whole.Goals as goal

pub loop-written-preserved : goal.loop-written-preserved
loop-written-preserved g c = record {
  within = written_more c.args.piece.now c.loop-written.written c.in-Ok.count c.loop-written.invariant.within c.in-Ok.ensures.bound;
  added = Appends-more _ _ _ c.args.piece.now c.loop-written.written c.in-Ok.count c.loop-written.invariant.added c.in-Ok.ensures.bytes;
  same = grind arith;
}
