use Rattle.std.proofs.lemmas.Result.{err_from_is_err_and}
use Rattle.ak_top.proofs.InputReads.{stops_at_image, stops_at_signers, stops_at_script, reads_all}
use Rattle.ak_top.proofs.inputs.read_inputs.Goals as goal

pub returns-in_err-image : goal.returns-in_err-image
returns-in_err-image g c =
    let p = err_from_is_err_and c.from_residual.result c.from_residual.ensures.1 in
    rw (p.1, p.2) (stops_at_image _ _ _ c.in_err-image.field-0.0 c.in_err-image.ensures)

pub returns-in_err-signers : goal.returns-in_err-signers
returns-in_err-signers g c =
    let p = err_from_is_err_and c.from_residual-in_err-signers.result c.from_residual-in_err-signers.ensures.1 in
    rw (p.1, p.2) (stops_at_signers _ _ _ _ c.in_ok-image.image c.in_err-signers.field-0.0 c.in_ok-image.ensures c.in_err-signers.ensures)

pub returns-in_err-script : goal.returns-in_err-script
returns-in_err-script g c =
    let p = err_from_is_err_and c.from_residual-in_err-script.result c.from_residual-in_err-script.ensures.1 in
    rw (p.1, p.2) (stops_at_script _ _ _ _ _ c.in_ok-image.image c.in_ok-signers.signers c.in_ok-image.ensures c.in_ok-signers.ensures c.in_err-script.field-0.0 c.in_err-script.ensures)

pub returns : goal.returns
returns g c =
    reads_all _ _ _ _ _ c.in_ok-image.image c.in_ok-signers.signers c.in_ok-image.ensures c.in_ok-signers.ensures c.in_ok-script.script c.in_ok-script.ensures
