use Rattle.std.proofs.Common.{ap, refl, sym, ◌∙◌, ◌-◌}
use Rattle.ak_core.specs.declared.registers.Regs.{Regs}
use Rattle.ak_model.specs.Flat.Instructions.{Writes, le_bytes, minus, reg_of, rsp, with_reg}
use Rattle.ak_model.specs.Flat.FlatRuns.{Flat, overwrite}
use Rattle.ak_exec.specs.declared.turn.Turn.TheVariants.{Done}
use Rattle.ak_exec.proofs.Paged.{shows_same}
use Rattle.ak_exec.proofs.Carrying.{to_le_bytes-8, carries_as, completes, ends_before}
use Rattle.ak_exec.proofs.transfers.push.Goals as goal

pub returns-in-Ok-clause-carried : goal.returns-in-Ok-clause-carried
returns-in-Ok-clause-carried g c =
    let top = minus (reg_of c.args.regs.now rsp) 8 in
    let pushed : Regs = with_reg (record c.args.regs.now { rip = c.args.next }) rsp top in
    carries_as c.args.layout.now (Writes top c.to_le_bytes.result pushed) (Writes top (le_bytes 8 c.args.number) pushed) Done pushed
    (g.M.Mem.holds c.write.new.mem) (g.M.Mem.bytes c.args.mem.now) (g.M.Mem.bytes c.write.new.mem) (g.M.Mem.granted c.args.mem.now) (g.M.Mem.granted c.write.new.mem)
    (ap (λ bytes. Writes top bytes pushed) (c.to_le_bytes.ensures ∙ to_le_bytes-8 c.args.number))
    (λ flat shows.
    let after : Flat = record { regs = pushed; bytes = overwrite flat.bytes (top - c.args.layout.now.base) c.to_le_bytes.result } in
    let old = shows_same c.args.layout.now (g.M.Mem.holds c.write.new.mem) (g.M.Mem.holds c.args.mem.now) (g.M.Mem.bytes c.args.mem.now) (g.M.Mem.bytes c.args.mem.now) flat (sym c.in-Ok.ensures.holds) refl shows in
    completes c.args.layout.now _ after pushed (g.M.Mem.holds c.write.new.mem) (g.M.Mem.bytes c.write.new.mem) (g.M.Mem.granted c.write.new.mem)
    (c.in-Ok.ensures.reached after) refl (c.in-Ok.ensures.shows flat old))

pub returns-in-Err-clause-carried : goal.returns-in-Err-clause-carried
returns-in-Err-clause-carried g c =
    let top = minus (reg_of c.args.regs.now rsp) 8 in
    let pushed : Regs = with_reg (record c.args.regs.now { rip = c.args.next }) rsp top in
    carries_as c.args.layout.now (Writes top c.to_le_bytes.result pushed) (Writes top (le_bytes 8 c.args.number) pushed) c.turn.result c.args.regs.now
    (g.M.Mem.holds c.write.new.mem) (g.M.Mem.bytes c.args.mem.now) (g.M.Mem.bytes c.write.new.mem) (g.M.Mem.granted c.args.mem.now) (g.M.Mem.granted c.write.new.mem)
    (ap (λ bytes. Writes top bytes pushed) (c.to_le_bytes.ensures ∙ to_le_bytes-8 c.args.number))
    (λ flat shows.
    ends_before c.args.layout.now _ c.in-Err.unreached c.turn.result c.args.regs.now (g.M.Mem.holds c.write.new.mem) (g.M.Mem.bytes c.write.new.mem) (g.M.Mem.granted c.write.new.mem)
    c.turn.ensures (c.in-Err.ensures.unreached (record { regs = pushed; bytes = overwrite flat.bytes (top - c.args.layout.now.base) c.to_le_bytes.result })))
