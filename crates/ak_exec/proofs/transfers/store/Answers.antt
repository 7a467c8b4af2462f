use Rattle.std.proofs.Common.{refl, sym, ◌-◌}
use Rattle.ak_model.specs.Flat.FlatRuns.{Flat, overwrite}
use Rattle.ak_exec.proofs.Paged.{shows_same}
use Rattle.ak_exec.proofs.Carrying.{completes, ends_before}
use Rattle.ak_exec.proofs.transfers.store.Goals as goal

pub returns-in-Ok-clause-carried : goal.returns-in-Ok-clause-carried
returns-in-Ok-clause-carried g c flat shows =
    let after : Flat = record { regs = record c.args.regs.now { rip = c.args.next }; bytes = overwrite flat.bytes (c.args.address - c.args.layout.now.base) c.args.bytes.now } in
    let old = shows_same c.args.layout.now (g.M.Mem.holds c.write.new.mem) (g.M.Mem.holds c.args.mem.now) (g.M.Mem.bytes c.args.mem.now) (g.M.Mem.bytes c.args.mem.now) flat (sym c.in-Ok.ensures.holds) refl shows in
    completes c.args.layout.now _ after (record c.args.regs.now { rip = c.args.next }) (g.M.Mem.holds c.write.new.mem) (g.M.Mem.bytes c.write.new.mem) (g.M.Mem.granted c.write.new.mem)
    (c.in-Ok.ensures.reached after) refl (c.in-Ok.ensures.shows flat old)

pub returns-in-Err-clause-carried : goal.returns-in-Err-clause-carried
returns-in-Err-clause-carried g c flat shows =
    ends_before c.args.layout.now _ c.in-Err.unreached c.turn.result c.args.regs.now (g.M.Mem.holds c.write.new.mem) (g.M.Mem.bytes c.write.new.mem) (g.M.Mem.granted c.write.new.mem)
    c.turn.ensures (c.in-Err.ensures.unreached (record { regs = record c.args.regs.now { rip = c.args.next }; bytes = overwrite flat.bytes (c.args.address - c.args.layout.now.base) c.args.bytes.now }))
