-- The digests of the names so far were read, no name has one twice, and the names are those so far.
use Rattle.std.proofs.Common.{◌≡◌, false, Some}
use Rattle.std.specs.BTreeMap.{IsOrdered}
use Rattle.std.specs.String.{string_cmp}
use Rattle.std.specs.Map.{keys_of}
use Rattle.ak_measure.specs.Collected.{signer_at, named}
use Rattle.ak_measure.specs.Signers.{any_repeats}
use Rattle.ak_measure.specs.Stages.{each_of}
use Rattle.ak_measure.proofs.signers.by_name.Given as goal

abbrev pub invariant-loop-name : goal.invariant-loop-name
invariant-loop-name l = record {
  can_next : (goal.iterator-loop-name).can_next l.name-iterator;
  is_finite : (goal.iterator-loop-name).is_finite l.name-iterator;
  read : each_of signer_at l.yielded ≡ Some (named (λ s. s.keys) l.names.entries);
  distinct : any_repeats (named (λ s. s.keys) l.names.entries) ≡ false;
  ordered : IsOrdered string_cmp l.names;
  names : keys_of l.names.entries ≡ keys_of l.yielded;
}
