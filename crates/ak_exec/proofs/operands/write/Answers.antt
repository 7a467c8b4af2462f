use Rattle.std.proofs.Common.{◌≡◌, ℕ, ◌-◌, subst, arith}
use Rattle.ak_model.specs.Flat.FlatRuns.{overwrite}
use Rattle.ak_exec.specs.Turns.{Shows}
use Rattle.ak_exec.proofs.Paged.{shows_same}
use Rattle.ak_exec.proofs.operands.write.Goals as goal

pub returns-clause-shows : goal.returns-clause-shows
returns-clause-shows g c flat shows =
    let r = c.in_ok-place.ensures.reached in
    let place : c.in_ok-place.place ≡ c.args.address - c.args.layout.now.base = omega (arith, r.at.from_base) in
    let after = shows_same c.args.layout.now (g.M.Mem.holds c.args.mem.now) (g.M.Mem.holds c.reach.new.mem) (g.M.Mem.bytes c.args.mem.now) (g.M.Mem.bytes c.reach.new.mem) flat c.in_ok-place.ensures.same.holds c.in_ok-place.ensures.same.bytes shows in
    let P : ℕ → Type 0 = λ n. Shows c.args.layout.now (g.M.Mem.holds c.store_bytes.new.mem) (g.M.Mem.bytes c.store_bytes.new.mem) (record flat { bytes = overwrite flat.bytes n c.args.bytes.now }) in
    subst P place (c.store_bytes.ensures.shows c.args.layout.now flat r.at.room after)
