use Rattle.std.proofs.Common.{◌≡◌, take}
use Rattle.ak_outside.specs.Taken.{with_more}
use Rattle.ak_script.specs.Text.{in_lines, input_text}
use Rattle.ak_script.proofs.printing.print_inputs.Given as goal

abbrev pub invariant-loop-input : goal.invariant-loop-input
invariant-loop-input g l = record {
  taken : g.O.Sink.taken l.out ≡ with_more (g.O.Sink.taken l.initial.out) (in_lines input_text (take l.input-index l.inputs));
  same : g.O.Sink.faults l.out ≡ g.O.Sink.faults l.initial.out;
}
