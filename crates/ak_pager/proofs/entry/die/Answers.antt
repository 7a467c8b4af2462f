use Rattle.std.proofs.Common.{refl}
use Rattle.ak_model.specs.Control.ControlState.{Dead}
use Rattle.ak_pager.specs.Rows.{AreasGuard, dying}
use Rattle.ak_pager.proofs.Changing.{in_row, performs}
use Rattle.ak_pager.proofs.entry.die.Goals as goal

pub returns-clause-row : goal.returns-clause-row
returns-clause-row g c r regs reads =
    let old = g.M.Mem.bytes c.args.mem.now in
    let new = g.M.Mem.bytes c.end.new.mem in
    performs c.args.layout.now (dying r c.args.saved c.args.cause) old new _ regs refl
    (in_row c.args.layout.now Dead c.args.saved r (AreasGuard c.args.saved) old new reads c.end.ensures.changes)
