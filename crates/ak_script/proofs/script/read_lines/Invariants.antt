use Rattle.std.proofs.Common.{◌≡◌, ◌≤◌, ◌+◌, length, map, true}
use Rattle.std.specs.List.{list_all}
use Rattle.std.specs.Str.Lines.{lines}
use Rattle.ak_script.specs.Line.{item_fits, spelled}
use Rattle.ak_script.specs.Operand.{VALUE, fits}
use Rattle.ak_script.proofs.Reading.{Counts, SaidSoFar}
use Rattle.ak_script.proofs.script.read_lines.Given as goal

abbrev pub invariant-loop-rest : goal.invariant-loop-rest
invariant-loop-rest l = record {
  said : SaidSoFar (map spelled (lines l.bytes)) l.number (map spelled (lines l.rest)) l.items.items l.inputs.items;
  counts : Counts l.items.items l.moves l.turns;
  lines : l.number + length l.rest ≤ length l.bytes;
  few_moves : l.moves ≤ 20000;
  few_turns : l.turns ≤ 20000000;
  all_items_fit : list_all item_fits l.items.items ≡ true;
  inputs_fit : list_all (fits VALUE) l.inputs.items ≡ true;
}

abbrev pub decreases-loop-rest : goal.decreases-loop-rest
decreases-loop-rest l = length l.rest
