use Rattle.std.proofs.lemmas.Result.{err_from_is_err_and}
use Rattle.ak_top.proofs.Endings.{measured, unmeasured, unwritten}
use Rattle.ak_top.proofs.measure.measure_command.Goals as goal

pub returns-in_err-image : goal.returns-in_err-image
returns-in_err-image g c =
    let p = err_from_is_err_and c.from_residual.result c.from_residual.ensures.1 in
    rw (p.1, p.2) (unmeasured _ _ _ _ c.in_err-image.field-0.0 c.in_err-image.ensures)

pub returns-in_err-write_digest : goal.returns-in_err-write_digest
returns-in_err-write_digest g c =
    let p = err_from_is_err_and c.from_residual-in_err-write_digest.result c.from_residual-in_err-write_digest.ensures.1 in
    let wrote = rw c.digest.ensures at c.in_err-write_digest.ensures in
    rw (p.1, p.2) (unwritten _ _ _ _ _ c.in_ok-image.image c.in_err-write_digest.field-0.0 c.in_ok-image.ensures wrote)

pub returns : goal.returns
returns g c = measured _ _ _ _ _ c.in_ok-image.image c.in_ok-image.ensures (rw c.digest.ensures at c.in_ok-write_digest.ensures)
