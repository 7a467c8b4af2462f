use Rattle.std.proofs.Common.{◌≡◌, take}
use Rattle.ak_outside.specs.Taken.{with_more}
use Rattle.ak_script.specs.Text.{in_lines, item_text}
use Rattle.ak_script.proofs.printing.print_items.Given as goal

abbrev pub invariant-loop-item : goal.invariant-loop-item
invariant-loop-item g l = record {
  taken : g.O.Sink.taken l.out ≡ with_more (g.O.Sink.taken l.initial.out) (in_lines item_text (take l.item-index l.items));
  same : g.O.Sink.faults l.out ≡ g.O.Sink.faults l.initial.out;
}
