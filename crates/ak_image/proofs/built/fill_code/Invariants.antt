use Rattle.std.proofs.Common.{◌≡◌, ◌++◌}
use Rattle.std.specs.List.{zip}
use Rattle.byteorder.specs.Endian.{little_bytes}
use Rattle.ak_measure.specs.Blocks.{zeros}
use Rattle.ak_image.proofs.Filling.{code_so_far}
use Rattle.ak_image.proofs.built.fill_code.Given as goal

-- CODE says something of the pages so far, and of the limits
abbrev pub invariant-loop-page : goal.invariant-loop-page
invariant-loop-page l =
    l.into ≡ code_so_far (zip l.cluster_of l.perms) l.page ((little_bytes 4 l.budget ++ little_bytes 4 l.entry) ++ zeros 1016)
