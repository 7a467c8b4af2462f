use Rattle.std.proofs.Common.{◌≡◌, ◌+◌, ◌*◌, ◌≤◌, length}
use lib.Seq.{paste}
use Rattle.ak_core.specs.Layout.{Layout}
use Rattle.ak_model.specs.Paging.Pages.{pages}
use Rattle.ak_model.specs.Flat.FlatRuns.{Flat}
use Rattle.ak_exec.specs.Turns.{KeepsUnwritten, Shows}
use Rattle.ak_exec.proofs.operands.store_bytes.Given as goal

abbrev pub invariant-loop-i : goal.invariant-loop-i
invariant-loop-i g l = record {
  holds : g.M.Mem.holds l.mem ≡ g.M.Mem.holds l.initial.mem;
  keeps : g.M.Mem.keeps l.initial.mem l.mem;
  granted : g.M.Mem.granted l.mem ≡ g.M.Mem.granted l.initial.mem;
  refused : g.M.Mem.refused l.mem ≡ g.M.Mem.refused l.initial.mem;
  unwritten : KeepsUnwritten (g.M.Mem.granted l.initial.mem) (g.M.Mem.bytes l.initial.mem) (g.M.Mem.bytes l.mem);
  shows : (layout : Layout) (flat : Flat) → l.place + length l.bytes ≤ 4096 * pages layout →
      Shows layout (g.M.Mem.holds l.initial.mem) (g.M.Mem.bytes l.initial.mem) flat →
      Shows layout (g.M.Mem.holds l.mem) (g.M.Mem.bytes l.mem) (record flat { bytes = paste flat.bytes l.place l.bytes l.i });
}
