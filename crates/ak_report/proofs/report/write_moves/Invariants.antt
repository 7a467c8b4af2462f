use Rattle.std.proofs.Common.{◌≡◌, take}
use Rattle.ak_outside.specs.Taken.{with_more}
use Rattle.ak_script.specs.Text.{in_lines}
use Rattle.ak_report.specs.Report.{answered_moves, move_line}
use Rattle.ak_report.proofs.report.write_moves.Given as goal

abbrev pub invariant-loop-i : goal.invariant-loop-i
invariant-loop-i g l = record {
  taken : g.O.Sink.taken l.out ≡ with_more (g.O.Sink.taken l.initial.out) (in_lines move_line (take l.i (answered_moves 1 l.moves l.answers)));
  same : g.O.Sink.faults l.out ≡ g.O.Sink.faults l.initial.out;
}
