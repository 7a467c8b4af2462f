use Rattle.std.proofs.Common.{map}
use Rattle.std.specs.List.{range_with_len}
use Rattle.ak_measure.specs.Absorbed.{HasAbsorbed}
use Rattle.ak_measure.specs.Blocks.{blocks_of}
use Rattle.ak_image.specs.Built.{page_bytes, secinfo_of, pages_of}
use Rattle.ak_core.specs.Layout.{enclave_size}
use Rattle.ak_image.proofs.image.Image.digest.Given as goal

-- the blocks of the pages so far were absorbed
abbrev pub invariant-loop-page : goal.invariant-loop-page
invariant-loop-page l =
    HasAbsorbed l.measure (blocks_of (enclave_size (pages_of l.self)) (map (λ p. (secinfo_of l.self p, page_bytes l.self p)) (range_with_len 0 l.page)))
