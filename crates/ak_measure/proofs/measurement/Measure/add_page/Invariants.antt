-- The block of EADD and the chunks so far were absorbed.
use Rattle.std.proofs.Common.{◌++◌, ℕ, List}
use Rattle.std.specs.List.{flat_map, range_with_len}
use Rattle.ak_measure.specs.Blocks.{add_block, chunk_blocks}
use Rattle.ak_measure.specs.Absorbed.{HasAbsorbed}
use Rattle.ak_measure.proofs.measurement.Measure.add_page.Given as goal

abbrev pub invariant-loop-j : goal.invariant-loop-j
invariant-loop-j l = (bytes : List ℕ) → HasAbsorbed l.fn.self bytes
    → HasAbsorbed l.self (bytes ++ (add_block l.offset l.secinfo ++ flat_map (chunk_blocks l.offset l.page) (range_with_len 0 l.j)))
