use Rattle.std.proofs.Common.{◌≡◌, ◌++◌, ◌*◌, ◌-◌}
use Rattle.ak_gen.specs.Numbers.{number_after, word_bytes}
use Rattle.ak_gen.specs.Program.{first_page}
use Rattle.ak_gen.proofs.generator.bytes_of.Given as goal

-- the program and so many pages of words are there, and the last number is so many words after the first
abbrev pub invariant-loop-page : goal.invariant-loop-page
invariant-loop-page l = record {
  last : l.last ≡ number_after (512 * (l._page - 1)) l.fn.number;
  words : l.bytes.items ≡ first_page ++ word_bytes (512 * (l._page - 1)) l.fn.number;
}
