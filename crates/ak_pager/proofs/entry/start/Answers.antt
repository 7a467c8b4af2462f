use Rattle.std.proofs.Common.{◌≡◌, ℕ, ◌+◌, refl, ap, arith}
use Rattle.ak_model.specs.Control.ControlState.{Running}
use Rattle.ak_model.specs.Flat.FlatRuns.{zeroed}
use Rattle.ak_pager.specs.Rows.{AreasStay, GoesWith, with_phase}
use Rattle.ak_pager.proofs.Changing.{in_row, performs}
use Rattle.ak_pager.proofs.entry.start.Goals as goal

pub returns-clause-row : goal.returns-clause-row
returns-clause-row g c r reads =
    let layout = c.args.layout.now in
    let old = g.M.Mem.bytes c.args.mem.now in
    let new = g.M.Mem.bytes c.set_phase.new.mem in
    let at : c.base.result + c.from.result ≡ layout.base + layout.entry = omega (arith, c.base.ensures.base, c.from.ensures, c.entry.ensures) in
    performs layout (record { state = with_phase r Running; areas = AreasStay; ends = GoesWith (zeroed (layout.base + layout.entry)) }) old new _ _ (refl, ap (λ (rip : ℕ). zeroed rip) at)
    (in_row layout Running 0 r AreasStay old new reads c.set_phase.ensures.changes)
