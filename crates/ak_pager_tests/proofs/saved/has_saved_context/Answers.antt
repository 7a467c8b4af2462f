use Rattle.ak_pager_tests.proofs.Witnesses.{program_context, runtime_context, same_regs}
use Rattle.ak_pager_tests.proofs.saved.has_saved_context.Goals as goal

pub returns-then-is_oldest : goal.returns-then-is_oldest
returns-then-is_oldest c phase queue h =
    program_context c.args.layout.now phase queue c.args.program.now c.load-regs.result c.why-why.result c.args.is_oldest c.args.area.now
    (c.is_frame.ensures c.if-not-is_frame.false) c.are_regs.ensures (c.is_cause.ensures c.if-not-is_cause.false)
    (same_regs c.load-regs.result c.args.program.now (c.is_program.ensures c.if-is_program.true)) (c.is_program_why.ensures h) c.if-is_oldest.true

pub returns : goal.returns
returns c phase queue h =
    let its = c.is_runtime.ensures h in
    runtime_context c.args.layout.now phase queue c.args.program.now c.load-regs.result c.why-why.result c.args.is_oldest c.args.area.now
    (c.is_frame.ensures c.if-not-is_frame.false) c.are_regs.ensures (c.is_cause.ensures c.if-not-is_cause.false) its.0 its.1 its.2
