use Rattle.std.proofs.Common.{sym, ◌∙◌}
use Rattle.ak_run.proofs.Serving.{not_passed}
use Rattle.ak_run.proofs.events.admit.Goals as goal

pub returns-else-is_out : goal.returns-else-is_out
returns-else-is_out c =
    not_passed c.args.layout.now c.args.queue.now c.drop_for.new.self c.args.cluster c.drop_for.result c.drop_for.ensures.rest (sym c.is_out.ensures ∙ c.if-is_out.false)
