use Rattle.std.proofs.Common.{refl}
use Rattle.ak_model.specs.Control.ControlState.{Trapped}
use Rattle.ak_pager.specs.Rows.{AreasGuard, trapping}
use Rattle.ak_pager.proofs.Changing.{in_row, performs}
use Rattle.ak_pager.proofs.entry.trap.Goals as goal

pub returns-clause-row : goal.returns-clause-row
returns-clause-row g c r regs reads =
    let old = g.M.Mem.bytes c.args.mem.now in
    let new = g.M.Mem.bytes c.end.new.mem in
    performs c.args.layout.now (trapping r c.args.vector) old new _ regs refl
    (in_row c.args.layout.now (Trapped c.args.vector) c.args.saved r (AreasGuard 1) old new reads c.end.ensures.changes)
