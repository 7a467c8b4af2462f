use Rattle.std.proofs.lemmas.Result.{err_from_is_err_and}
use Rattle.ak_top.proofs.Demos.{no_memory, shown, unshown}
use Rattle.ak_top.proofs.demo.demo_command.Goals as goal

pub returns-in_err-run : goal.returns-in_err-run
returns-in_err-run g c files =
    let p = err_from_is_err_and c.from_residual.result c.from_residual.ensures.1 in
    rw (p.1, p.2, c.in_err-run.ensures) (no_memory c.args.number files _)

pub returns-in_err-put_summary : goal.returns-in_err-put_summary
returns-in_err-put_summary g c files =
    let p = err_from_is_err_and c.from_residual-in_err-put_summary.result c.from_residual-in_err-put_summary.ensures.1 in
    rw (p.1, p.2) (unshown c.args.number files _ _ c.in_ok-run.run' c.in_ok-run.ensures c.in_err-put_summary.field-0.0 c.in_err-put_summary.ensures)

pub returns : goal.returns
returns g c files = shown c.args.number files _ _ c.in_ok-run.run' c.in_ok-run.ensures c.in_ok-put_summary.ensures
