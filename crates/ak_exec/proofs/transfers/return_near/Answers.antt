use Rattle.std.proofs.Common.{◌≡◌, ℕ, refl, ap, sym, ◌∙◌}
use Rattle.ak_model.specs.Flat.Instructions.{le_value, reg_of, rsp}
use Rattle.ak_model.specs.Flat.FlatRuns.{Flat, bytes_at}
use Rattle.ak_exec.specs.Carried.{popped}
use Rattle.ak_exec.proofs.Paged.{shows_same}
use Rattle.ak_exec.proofs.Carrying.{completes, ends_before, from_le_bytes-8}
use Rattle.ak_exec.proofs.transfers.return_near.Goals as goal

pub returns-in-Ok-clause-carried : goal.returns-in-Ok-clause-carried
returns-in-Ok-clause-carried g c flat shows =
    let after = λ (v : ℕ). let f : Flat = record { regs = record (popped c.args.regs.now) { rip = v }; bytes = flat.bytes } in f in
    let old = shows_same c.args.layout.now (g.M.Mem.holds c.read.new.mem) (g.M.Mem.holds c.args.mem.now) (g.M.Mem.bytes c.args.mem.now) (g.M.Mem.bytes c.args.mem.now) flat (sym c.in-Ok.ensures.same.holds) refl shows in
    let new = shows_same c.args.layout.now (g.M.Mem.holds c.read.new.mem) (g.M.Mem.holds c.read.new.mem) (g.M.Mem.bytes c.args.mem.now) (g.M.Mem.bytes c.read.new.mem) flat refl c.in-Ok.ensures.same.bytes shows in
    let value : c.from_le_bytes-regs.result ≡ le_value (bytes_at c.args.layout.now flat (reg_of c.args.regs.now rsp) 8) =
    c.from_le_bytes-regs.ensures ∙ from_le_bytes-8 c.read.new.into c.read.auto.into ∙ ap le_value (c.in-Ok.ensures.value flat old) in
    completes c.args.layout.now _ (after (le_value (bytes_at c.args.layout.now flat (reg_of c.args.regs.now rsp) 8))) (after (c.from_le_bytes-regs.result)).regs (g.M.Mem.holds c.read.new.mem) (g.M.Mem.bytes c.read.new.mem) (g.M.Mem.granted c.read.new.mem)
    (c.in-Ok.ensures.reached (after (le_value (bytes_at c.args.layout.now flat (reg_of c.args.regs.now rsp) 8)))) (ap (λ v. (after v).regs) (sym value)) new

pub returns-in-Err-clause-carried : goal.returns-in-Err-clause-carried
returns-in-Err-clause-carried g c flat shows =
    ends_before c.args.layout.now _ c.in-Err.unreached c.turn.result c.args.regs.now (g.M.Mem.holds c.read.new.mem) (g.M.Mem.bytes c.read.new.mem) (g.M.Mem.granted c.read.new.mem)
    c.turn.ensures (c.in-Err.ensures.unreached _)
