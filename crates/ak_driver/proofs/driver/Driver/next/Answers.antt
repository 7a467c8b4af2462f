use Rattle.std.proofs.Common.{◌∙◌, sym}
use Rattle.ak_driver.proofs.Noting.GivenMoves.{no_move, kept_move, refused_move}
use Rattle.ak_driver.proofs.driver.Driver.next.Goals as goal

pub returns-then-was_refused : goal.returns-then-was_refused
returns-then-was_refused c = λ past notes.
    refused_move c.args.self.now c.args.layout.now past notes c.args.inputs.now c.in-Some.m c.in-Some.ensures (sym c.was_refused.ensures ∙ c.if-was_refused.true)

pub returns-else-was_refused : goal.returns-else-was_refused
returns-else-was_refused c = λ past notes.
    kept_move c.args.self.now c.args.layout.now past notes c.args.inputs.now c.in-Some.m c.in-Some.ensures (sym c.was_refused.ensures ∙ c.if-was_refused.false)

pub returns-in-None : goal.returns-in-None
returns-in-None c = λ past notes. no_move c.args.self.now c.args.layout.now past notes c.args.inputs.now (sym c.in-None.is ∙ c.ruled.ensures)
