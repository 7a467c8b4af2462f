use Rattle.std.proofs.Common.{◌≡◌, ℕ, ◌+◌, ◌/◌, ◌%◌, ◌<◌, get_or}
use Rattle.ak_exec.proofs.operands.load_bytes.Given as goal

abbrev pub invariant-loop-i : goal.invariant-loop-i
invariant-loop-i g l =
    (k : ℕ) → k < l.i → get_or l.into k 0 ≡ get_or (g.M.Mem.bytes l.mem ((l.place + k) / 4096)) ((l.place + k) % 4096) 0
