use Rattle.std.proofs.Common.{◌≡◌, ◌-◌, ◌≤◌, length, take}
use Rattle.ak_outside.specs.Taken.{with_more}
use Rattle.ak_outside.proofs.writing.write_lines.Given as goal

abbrev pub invariant-loop-start : goal.invariant-loop-start
invariant-loop-start g l = record {
  within : l.start ≤ length l.text;
  taken : g.O.Sink.taken l.out ≡ with_more (g.O.Sink.taken l.initial.out) (take l.start l.text);
  same : g.O.Sink.faults l.out ≡ g.O.Sink.faults l.initial.out;
}

abbrev pub decreases-loop-start : goal.decreases-loop-start
decreases-loop-start g l = length l.text - l.start
