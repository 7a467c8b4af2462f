use Rattle.std.proofs.Common.{ap, ◌∙◌}
use Rattle.ak_exec.proofs.Lines.{performed}
use Rattle.ak_exec.proofs.Paged.{shows_same}
use Rattle.ak_exec.proofs.interpreter.exec.Goals as goal

pub returns-in-Found-clause-line : goal.returns-in-Found-clause-line
returns-in-Found-clause-line g c flat e shows =
    let begun = shows_same c.args.layout.now (g.M.Mem.holds c.args.mem.now) (g.M.Mem.holds c.begin.new.self) (g.M.Mem.bytes c.args.mem.now) (g.M.Mem.bytes c.begin.new.self) flat c.begin.ensures.holds c.begin.ensures.bytes shows in
    let fetched = shows_same c.args.layout.now (g.M.Mem.holds c.begin.new.self) (g.M.Mem.holds c.perform.new.mem) (g.M.Mem.bytes c.begin.new.self) (g.M.Mem.bytes c.fetch.new.mem) flat (c.perform.ensures.ends.holds ∙ c.fetch.ensures.same.holds) c.fetch.ensures.same.bytes begun in
    performed c.args.layout.now flat (g.M.Mem.granted c.fetch.new.mem) (g.M.Mem.granted c.perform.new.mem) c.in-Found.instr c.in-Found.size c.perform.result c.args.regs.now c.perform.new.regs
    (g.M.Mem.holds c.perform.new.mem) (g.M.Mem.bytes c.fetch.new.mem) (g.M.Mem.bytes c.perform.new.mem) e fetched (c.in-Found.ensures.line flat (ap (λ r. r.rip) e) begun) c.perform.ensures.carried
