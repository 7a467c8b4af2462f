use Rattle.std.proofs.Common.{◌≡◌, ◌≤◌, ◌+◌, ◌*◌, ◌++◌, drop, length}
use Rattle.ak_script.specs.Text.{numbers_text}
use Rattle.ak_script.proofs.text.words_line.Given as goal

abbrev pub invariant-loop-number : goal.invariant-loop-number
invariant-loop-number l = record {
  text : l.line.bytes ++ numbers_text (drop l.number-index l.numbers) ≡ l.name ++ numbers_text l.numbers;
  short : length l.line.bytes ≤ length l.name + 21 * l.number-index;
}
