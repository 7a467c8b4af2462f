use Rattle.std.proofs.Common.{◌≡◌, ◌≤◌, ◌-◌, length, take}
use Rattle.std.specs.Io.KnownBytes.{Appends}
use Rattle.ak_outside.specs.Counted.{held_by, number_of}
use Rattle.ak_outside.proofs.real_sink.write_whole.Given as goal

abbrev pub invariant-loop-written : goal.invariant-loop-written
invariant-loop-written g l = record {
  within : l.written ≤ length l.piece;
  added : Appends (g.W.Write.contents (held_by l.initial.stream)) (g.W.Write.contents (held_by l.stream)) (take l.written l.piece);
  same : number_of l.faults ≡ number_of l.initial.faults;
}

abbrev pub decreases-loop-written : goal.decreases-loop-written
decreases-loop-written g l = length l.piece - l.written
