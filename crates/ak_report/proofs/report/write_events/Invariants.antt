use Rattle.std.proofs.Common.{◌≡◌, take}
use Rattle.ak_outside.specs.Taken.{with_more}
use Rattle.ak_script.specs.Text.{in_lines}
use Rattle.ak_report.specs.Report.{event_line}
use Rattle.ak_report.proofs.report.write_events.Given as goal

abbrev pub invariant-loop-event : goal.invariant-loop-event
invariant-loop-event g l = record {
  taken : g.O.Sink.taken l.out ≡ with_more (g.O.Sink.taken l.initial.out) (in_lines event_line (take l.event-index l.events));
  same : g.O.Sink.faults l.out ≡ g.O.Sink.faults l.initial.out;
}
