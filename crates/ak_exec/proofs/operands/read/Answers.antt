use Rattle.std.proofs.Common.{◌≡◌, ◌-◌, length, take, drop, ap, ◌∙◌, arith}
use Rattle.ak_exec.proofs.Paged.{loaded, shows_same}
use Rattle.ak_exec.proofs.operands.read.Goals as goal

pub returns-clause-value : goal.returns-clause-value
returns-clause-value g c flat shows =
    let r = c.in_ok-place.ensures.reached in
    let a = c.load_bytes.auto.into in
    let place : c.in_ok-place.place ≡ c.args.address - c.args.layout.now.base = omega (arith, r.at.from_base) in
    let size : length c.load_bytes.new.into ≡ length c.args.into.now = omega arith in
    let after = shows_same c.args.layout.now (g.M.Mem.holds c.args.mem.now) (g.M.Mem.holds c.reach.new.mem) (g.M.Mem.bytes c.args.mem.now) (g.M.Mem.bytes c.reach.new.mem) flat c.in_ok-place.ensures.same.holds c.in_ok-place.ensures.same.bytes shows in
    loaded c.args.layout.now (g.M.Mem.holds c.reach.new.mem) (g.M.Mem.bytes c.reach.new.mem) flat c.in_ok-place.place c.load_bytes.new.into after (g.M.Mem.whole c.reach.new.mem) (omega (arith, r.at.room))
    (λ k below. r.held k (omega arith)) (λ k below. c.load_bytes.ensures k (omega arith))
    ∙ ap (λ n. take n (drop c.in_ok-place.place flat.bytes)) size
    ∙ ap (λ n. take (length c.args.into.now) (drop n flat.bytes)) place
