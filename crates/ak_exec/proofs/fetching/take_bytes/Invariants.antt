use Rattle.std.proofs.Common.{◌≡◌, ◌+◌, ◌++◌, length, take, drop}
use Rattle.ak_exec.proofs.fetching.take_bytes.Given as goal

abbrev pub invariant-loop-i : goal.invariant-loop-i
invariant-loop-i g l = record {
  taken : l.window.items ≡ l.initial.window.items ++ take l.i (drop l.from (g.M.Mem.bytes l.mem l.page.0));
  count : length l.window.items ≡ length l.initial.window.items + l.i;
}
