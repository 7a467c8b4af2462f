use Rattle.ak_script.specs.Text.{item_text}
use Rattle.ak_script.proofs.LineByLine.{stopped}
use Rattle.ak_script.proofs.printing.print_items.Goals as goal

pub returns-in-Err-clause-err : goal.returns-in-Err-clause-err
returns-in-Err-clause-err g c =
    let front = rw c.item_line.ensures.text at c.in-Err.ensures.err in
    stopped item_text c.args.items.now c.loop-item.item-index _ c.loop-item-test.true _ _ _ c.loop-item.invariant.taken front
