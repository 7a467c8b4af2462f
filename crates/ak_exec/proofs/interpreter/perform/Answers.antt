use Rattle.std.proofs.Common.{◌≡◌, ◌+◌, ap, sym, ◌∙◌, arith}
use Rattle.std.proofs.lemmas.Int.{to_z-of_z}
use Rattle.ak_core.specs.declared.registers.Regs.{Regs}
use Rattle.ak_model.specs.Flat.Instructions.{Reads, Writes, plan, reg_of, rsp, with_reg, moved}
use Rattle.ak_exec.specs.Carried.{popped}
use Rattle.ak_exec.proofs.Lines.{carried_out}
use Rattle.ak_exec.proofs.Carrying.{to_le_bytes-8, carries_as}
use Rattle.ak_exec.proofs.interpreter.perform.Goals as goal

pub returns-in-Store-clause-carried : goal.returns-in-Store-clause-carried
returns-in-Store-clause-carried g c =
    let next : Regs = record c.args.regs.now { rip = c.args.regs.now.rip + c.args.size } in
    let address : c.moved-address.result ≡ moved (reg_of next c.in-Store.rm) c.in-Store.disp = grind (arith, to_z-of_z, c.moved-address.ensures) in
    let same : Writes c.moved-address.result c.to_le_bytes-bytes.result next ≡ plan c.args.instr next =
    ap (λ a. Writes a c.to_le_bytes-bytes.result next) address
    ∙ ap (λ bytes. Writes (moved (reg_of next c.in-Store.rm) c.in-Store.disp) bytes next) (c.to_le_bytes-bytes.ensures ∙ to_le_bytes-8 (reg_of next c.in-Store.reg))
    ∙ ap (λ i. plan i next) (sym c.in-Store.is) in
    carries_as c.args.layout.now (Writes c.moved-address.result c.to_le_bytes-bytes.result next) (plan c.args.instr next) c.store.result c.store.new.regs
    (g.M.Mem.holds c.store.new.mem) (g.M.Mem.bytes c.args.mem.now) (g.M.Mem.bytes c.store.new.mem) (g.M.Mem.granted c.args.mem.now) (g.M.Mem.granted c.store.new.mem)
    same c.store.ensures.carried

pub returns-in-Load-clause-carried : goal.returns-in-Load-clause-carried
returns-in-Load-clause-carried g c =
    let next : Regs = record c.args.regs.now { rip = c.args.regs.now.rip + c.args.size } in
    let address : c.moved-address-in-Load.result ≡ moved (reg_of next c.in-Load.rm) c.in-Load.disp = grind (arith, to_z-of_z, c.moved-address-in-Load.ensures) in
    let same : Reads c.moved-address-in-Load.result 8 (λ v. with_reg next c.in-Load.reg v) ≡ plan c.args.instr next =
    ap (λ a. Reads a 8 (λ v. with_reg next c.in-Load.reg v)) address
    ∙ ap (λ i. plan i next) (sym c.in-Load.is) in
    carries_as c.args.layout.now (Reads c.moved-address-in-Load.result 8 (λ v. with_reg next c.in-Load.reg v)) (plan c.args.instr next) c.load.result c.load.new.regs
    (g.M.Mem.holds c.load.new.mem) (g.M.Mem.bytes c.args.mem.now) (g.M.Mem.bytes c.load.new.mem) (g.M.Mem.granted c.args.mem.now) (g.M.Mem.granted c.load.new.mem)
    same c.load.ensures.carried

pub returns-in_default-clause-carried : goal.returns-in_default-clause-carried
returns-in_default-clause-carried g c flat shows =
    let next : Regs = record c.args.regs.now { rip = c.args.regs.now.rip + c.args.size } in
    carried_out c.args.layout.now flat (g.M.Mem.granted c.args.mem.now) (plan c.args.instr next) c.compute.result c.args.regs.now c.compute.new.regs
    (g.M.Mem.holds c.args.mem.now) (g.M.Mem.bytes c.args.mem.now) shows c.compute.ensures.turn

pub returns-in-Return-clause-carried : goal.returns-in-Return-clause-carried
returns-in-Return-clause-carried g c =
    let regs = c.args.regs.now in
    let next : Regs = record regs { rip = regs.rip + c.args.size } in
    carries_as c.args.layout.now (Reads (reg_of regs rsp) 8 (λ v. record (popped regs) { rip = v })) (plan c.args.instr next) c.return_near.result c.return_near.new.regs
    (g.M.Mem.holds c.return_near.new.mem) (g.M.Mem.bytes c.args.mem.now) (g.M.Mem.bytes c.return_near.new.mem) (g.M.Mem.granted c.args.mem.now) (g.M.Mem.granted c.return_near.new.mem)
    (ap (λ i. plan i next) (sym c.in-Return.is)) c.return_near.ensures.carried

pub returns-in-Pop-clause-carried : goal.returns-in-Pop-clause-carried
returns-in-Pop-clause-carried g c =
    let regs = c.args.regs.now in
    let next : Regs = record regs { rip = regs.rip + c.args.size } in
    carries_as c.args.layout.now (Reads (reg_of regs rsp) 8 (λ v. with_reg (popped next) c.in-Pop.reg v)) (plan c.args.instr next) c.pop.result c.pop.new.regs
    (g.M.Mem.holds c.pop.new.mem) (g.M.Mem.bytes c.args.mem.now) (g.M.Mem.bytes c.pop.new.mem) (g.M.Mem.granted c.args.mem.now) (g.M.Mem.granted c.pop.new.mem)
    (ap (λ i. plan i next) (sym c.in-Pop.is)) c.pop.ensures.carried
