use Rattle.std.proofs.Common.{◌≡◌, ◌++◌}
use Rattle.ak_gen.specs.Numbers.{number_after, word_bytes}
use Rattle.ak_gen.proofs.numbers.push_page.Given as goal

-- so many words were added, and the last number is so many steps after the first
abbrev pub invariant-loop-word : goal.invariant-loop-word
invariant-loop-word l = record {
  last : l.last ≡ number_after l._word l.fn.number;
  words : l.bytes.items ≡ l.initial.bytes.items ++ word_bytes l._word l.fn.number;
}
