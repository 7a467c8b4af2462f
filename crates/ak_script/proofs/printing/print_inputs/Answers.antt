use Rattle.ak_script.specs.Text.{input_text}
use Rattle.ak_script.proofs.LineByLine.{stopped}
use Rattle.ak_script.proofs.printing.print_inputs.Goals as goal

pub returns-in-Err-clause-err : goal.returns-in-Err-clause-err
returns-in-Err-clause-err g c =
    let front = rw c.input_line.ensures.text at c.in-Err.ensures.err in
    stopped input_text c.args.inputs.now c.loop-input.input-index 0 c.loop-input-test.true _ _ _ c.loop-input.invariant.taken front
