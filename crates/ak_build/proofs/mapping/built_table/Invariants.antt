use Rattle.std.proofs.Common.{◌+◌, length}
use Rattle.ak_build.specs.Mapping.{MapsFirst}
use Rattle.ak_build.proofs.mapping.built_table.Given as goal

abbrev pub invariant-loop-i : goal.invariant-loop-i
invariant-loop-i l = MapsFirst l.layout l.table (length l.layout.perms + l.i)
