-- The digests of the items so far were read, and none stands twice.
use Rattle.std.proofs.Common.{◌≡◌, false, Some, take}
use Rattle.ak_measure.specs.Collected.{digest_at}
use Rattle.ak_measure.specs.Signers.{repeats}
use Rattle.ak_measure.specs.Stages.{each_of}
use Rattle.ak_measure.proofs.digests.distinct_digests.Given as goal

abbrev pub invariant-loop-item : goal.invariant-loop-item
invariant-loop-item l = record {
  read : each_of digest_at (take l.item-index l.items) ≡ Some l.digests.keys;
  distinct : repeats l.digests.keys ≡ false;
}
