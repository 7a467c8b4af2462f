use Rattle.std.proofs.Common.{◌∙◌, ◌≤◌, ◌+◌, ◌-◌, ◌*◌, ◌^◌, ap, arith, get_or}
use Rattle.std.proofs.lemmas.List.{take_all}
use Rattle.ak_script.specs.Words.{decimal}
use Rattle.ak_script.proofs.Digits.{too_large}
use Rattle.ak_script.proofs.operands.decimal.Goals as goal

pub returns-in_err-checked_mul : goal.returns-in_err-checked_mul
returns-in_err-checked_mul c =
    let n = c.loop-digit.number in
    let i = c.loop-digit.digit-index in
    let not_below = c.in_err-checked_mul.ensures in
    let le : 2 ^ 64 ≤ 10 * n + (get_or c.args.digits.now i 0 - 48) = grind (arith, not_below) in
    let large = too_large (2 ^ 64) n c.args.digits.now i c.loop-digit.invariant.says (omega arith) le in
    rw c.from_residual.ensures (λ lt. omega arith)

pub returns-in_err-number : goal.returns-in_err-number
returns-in_err-number c =
    let n = c.loop-digit.number in
    let i = c.loop-digit.digit-index in
    let not_below = c.in_err-number.ensures in
    let tens = c.in_ok-checked_mul.ensures in
    let le : 2 ^ 64 ≤ 10 * n + (get_or c.args.digits.now i 0 - 48) = grind (arith, not_below, tens) in
    let large = too_large (2 ^ 64) n c.args.digits.now i c.loop-digit.invariant.says (omega arith) le in
    rw c.from_residual-in_err-number.ensures (λ lt. omega arith)

pub returns : goal.returns
returns c =
    let all = c.loop-digit.invariant.says ∙ ap decimal (take_all c.loop-digit.digit-index c.args.digits.now (omega arith)) in
    (omega arith, all)
