use Rattle.ak_pager_tests.specs.DefinedSteps.{phase_of, program_at}
use Rattle.ak_pager_tests.proofs.Witnesses.{kept_frame, keeps_by}
use Rattle.ak_pager_tests.proofs.saved.keeps_frame.Goals as goal

pub returns-then-is_frame : goal.returns-then-is_frame
returns-then-is_frame c h =
    keeps_by (phase_of c.args.phase) c.args.layout.now (program_at c.args.program.now) c.args.state.now
    (kept_frame c.args.layout.now c.args.program.now c.why-why.result c.args.state.now
    (c.is_frame.ensures c.if-is_frame.true) c.are_regs.ensures (c.is_cause.ensures h))
