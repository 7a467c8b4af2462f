use Rattle.std.proofs.Common.{◌≡◌, take}
use Rattle.ak_outside.specs.Taken.{with_more}
use Rattle.ak_script.specs.Text.{in_lines}
use Rattle.ak_report.specs.Report.{output_line}
use Rattle.ak_report.proofs.writing.write_outputs.Given as goal

abbrev pub invariant-loop-output : goal.invariant-loop-output
invariant-loop-output g l = record {
  taken : g.O.Sink.taken l.out ≡ with_more (g.O.Sink.taken l.initial.out) (in_lines output_line (take l.output-index l.outputs));
  same : g.O.Sink.faults l.out ≡ g.O.Sink.faults l.initial.out;
}
