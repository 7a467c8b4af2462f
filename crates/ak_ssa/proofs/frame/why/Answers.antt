use Rattle.std.proofs.Common.{ap, ◌∙◌}
use Rattle.ak_ssa.specs.declared.cause.Why.TheVariants.{PageFault}
use Rattle.ak_ssa.specs.ReadFrames.{why_in}
use Rattle.ak_ssa.proofs.FramesReturn.{why_back}
use Rattle.ak_ssa.proofs.Words.{number, number_from}
use Rattle.ak_ssa.proofs.Reading.{nothing_read, vector_read, fault_read}
use Rattle.ak_ssa.proofs.frame.why.Goals as goal

pub returns-then-info-eq0 : goal.returns-then-info-eq0
returns-then-info-eq0 c =
    let frame = c.args.frame.now in
    let is = nothing_read frame c.read_u32-info.result c.read_u32-code.result (c.read_u32-info.ensures ∙ number_from 176 4 frame) (c.read_u32-code.ensures ∙ number_from 8 4 frame) c.if-info-eq0.true in
    record { noted = is; saved = λ regs why whole fits saved. is ∙ ap why_in saved ∙ why_back regs why whole fits }

pub returns-then-code-eq0 : goal.returns-then-code-eq0
returns-then-code-eq0 c =
    let frame = c.args.frame.now in
    let is = vector_read frame c.read_u32-info.result c.read_u32-code.result (c.read_u32-info.ensures ∙ number_from 176 4 frame) (c.read_u32-code.ensures ∙ number_from 8 4 frame) c.if-info-eq0.false c.if-code-eq0.true in
    record { noted = is; saved = λ regs why whole fits saved. is ∙ ap why_in saved ∙ why_back regs why whole fits }

pub returns-else-code-eq0 : goal.returns-else-code-eq0
returns-else-code-eq0 c =
    let frame = c.args.frame.now in
    let is = ap (PageFault c.read_u64.result) c.kind_of.ensures
    ∙ fault_read frame c.read_u32-info.result c.read_u32-code.result (c.read_u32-info.ensures ∙ number_from 176 4 frame) (c.read_u32-code.ensures ∙ number_from 8 4 frame)
    c.read_u64.result (c.read_u64.ensures ∙ number 8 frame) c.if-info-eq0.false c.if-code-eq0.false in
    record { noted = is; saved = λ regs why whole fits saved. is ∙ ap why_in saved ∙ why_back regs why whole fits }
