use Rattle.std.proofs.lemmas.Result.{err_from_is_err_and}
use Rattle.ak_exec.proofs.Reaching.{first_stops}
use Rattle.ak_exec.proofs.operands.touch_both.Goals as goal

pub returns-in_err-touch-clause-both : goal.returns-in_err-touch-clause-both
returns-in_err-touch-clause-both g c =
    let p = err_from_is_err_and c.from_residual.result c.from_residual.ensures.1 in
    rw (p.1, p.2) (first_stops c.args.first.0 c.args.last.0 c.args.kind c.in_err-touch.field-0.0 (g.M.Mem.granted c.args.mem.now) (g.M.Mem.granted c.touch.new.mem) c.in_err-touch.ensures.touch.err c.in_err-touch.ensures.touch.same)
