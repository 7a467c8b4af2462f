use Rattle.std.proofs.lemmas.Result.{err_from_is_err_and}
use Rattle.ak_top.proofs.Endings.{not_run, unsigned, ran, unreported}
use Rattle.ak_top.proofs.run.run_command.Goals as goal

pub returns-in_err-inputs : goal.returns-in_err-inputs
returns-in_err-inputs g c =
    let p = err_from_is_err_and c.from_residual.result c.from_residual.ensures.1 in
    rw (p.1, p.2) (not_run _ _ _ _ c.in_err-inputs.field-0.0 c.in_err-inputs.ensures)

pub returns-in_err-run : goal.returns-in_err-run
returns-in_err-run g c =
    let p = err_from_is_err_and c.from_residual-in_err-run.result c.from_residual-in_err-run.ensures.1 in
    rw (p.1, p.2) (unsigned _ _ _ c.in_ok-inputs.inputs c.in_ok-inputs.ensures _ c.in_err-run.field-0.0 c.in_err-run.ensures)

pub returns-in_err-put_report : goal.returns-in_err-put_report
returns-in_err-put_report g c =
    let p = err_from_is_err_and c.from_residual-in_err-put_report.result c.from_residual-in_err-put_report.ensures.1 in
    let wrote = rw c.journal.ensures at c.in_err-put_report.ensures in
    rw (p.1, p.2) (unreported _ _ _ c.in_ok-inputs.inputs c.in_ok-inputs.ensures c.in_ok-run.run' c.in_ok-run.ensures _ _ c.in_err-put_report.field-0.0 wrote)

pub returns : goal.returns
returns g c =
    let wrote = rw c.journal.ensures at c.in_ok-put_report.ensures in
    ran _ _ _ c.in_ok-inputs.inputs c.in_ok-inputs.ensures c.in_ok-run.run' c.in_ok-run.ensures _ _ wrote
