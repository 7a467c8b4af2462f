use Rattle.std.proofs.lemmas.Result.{err_from_is_err_and}
use Rattle.ak_outside.proofs.Fronts.{front_more, then_front}
use Rattle.ak_top.specs.Trouble.{line_of}
use Rattle.ak_top.proofs.trouble.write_line.Goals as goal

pub returns-in_err-write_two-clause-err : goal.returns-in_err-write_two-clause-err
unfolding line_of
returns-in_err-write_two-clause-err g c =
    let front = rw (c.as_bytes.ensures.value, c.head.ensures, c.as_bytes-2.ensures.value, c.place_text-place.ensures) at c.in_err-write_two.ensures.err in
    let p = err_from_is_err_and c.from_residual.result c.from_residual.ensures.1 in
    rw p.1 (front_more _ _ _ _ front)

pub returns-in_err-write_tail-clause-err : goal.returns-in_err-write_tail-clause-err
unfolding line_of
returns-in_err-write_tail-clause-err g c =
    let front = rw (c.as_bytes.ensures.value, c.head.ensures, c.as_bytes-2.ensures.value, c.place_text-place.ensures) at c.in_ok-write_two.ensures.ok in
    let p = err_from_is_err_and c.from_residual-in_err-write_tail.result c.from_residual-in_err-write_tail.ensures.1 in
    rw p.1 (then_front _ _ _ _ _ front c.in_err-write_tail.ensures.err)
