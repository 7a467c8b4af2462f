use Rattle.std.proofs.Common.{◌≡◌, ◌≤◌, ◌-◌, vec_len}
use Rattle.std.specs.Io.KnownBytes.{Consumes}
use Rattle.ak_outside.specs.Counted.{held_by, number_of}
use Rattle.ak_outside.proofs.real_files.read_whole.Given as goal

abbrev pub invariant-chunks : goal.invariant-chunks
invariant-chunks g l = record {
  within : vec_len l.bytes ≤ l.limit;
  read : Consumes (g.S.Read.remaining (held_by l.initial.source)) (g.S.Read.remaining (held_by l.source)) l.bytes.items;
  same : number_of l.faults ≡ number_of l.initial.faults;
  none_handed : l.handed ≡ 0;
}

abbrev pub decreases-chunks : goal.decreases-chunks
decreases-chunks g l = l.limit - vec_len l.bytes
