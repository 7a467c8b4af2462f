use Rattle.ak_outside.proofs.Fronts.{front_more, then_front}
use Rattle.ak_script.specs.Text.{in_lines, item_text, printed}
use Rattle.ak_script.proofs.script.Script.print.Goals as goal

pub returns-in-Err-clause-err : goal.returns-in-Err-clause-err
unfolding printed
returns-in-Err-clause-err g c =
    let front = rw c.inputs.ensures.value at c.in-Err.ensures.err in
    front_more _ _ _ (in_lines item_text c.args.self.now.items) front

pub returns-in-Err-print_items-clause-err : goal.returns-in-Err-print_items-clause-err
unfolding printed
returns-in-Err-print_items-clause-err g c =
    let whole = rw c.inputs.ensures.value at c.in_default.ensures.ok in
    let front = rw c.items.ensures.value at c.in-Err-print_items.ensures.err in
    then_front _ _ _ _ _ whole front
