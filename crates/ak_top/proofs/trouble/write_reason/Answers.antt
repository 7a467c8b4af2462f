use Rattle.std.proofs.lemmas.Result.{err_from_is_err_and}
use Rattle.ak_outside.proofs.Fronts.{front_more, then_front}
use Rattle.ak_top.proofs.trouble.write_reason.Goals as goal

pub returns-in_err-write_three-clause-err : goal.returns-in_err-write_three-clause-err
returns-in_err-write_three-clause-err g c =
    let number = rw (c.as_bytes.ensures.value, c.format-number.ensures.text, c.number.ensures) at c.in_err-write_three.ensures.err in
    let p = err_from_is_err_and c.from_residual.result c.from_residual.ensures.1 in
    rw p.1 (front_more _ _ _ _ number)

pub returns-in_err-write_two-clause-err : goal.returns-in_err-write_two-clause-err
returns-in_err-write_two-clause-err g c =
    let number = rw (c.as_bytes.ensures.value, c.format-number.ensures.text, c.number.ensures) at c.in_ok-write_three.ensures.ok in
    let word = rw (c.as_bytes-2.ensures.value, c.word.ensures) at c.in_err-write_two.ensures.err in
    let p = err_from_is_err_and c.from_residual-in_err-write_two.result c.from_residual-in_err-write_two.ensures.1 in
    rw p.1 (then_front _ _ _ _ _ number word)
