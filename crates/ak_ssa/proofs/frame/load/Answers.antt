use Rattle.std.proofs.Common.{ap, ◌∙◌}
use Rattle.ak_ssa.specs.SavedRegisters.{regs_in}
use Rattle.ak_ssa.proofs.RegistersReturn.{regs_back}
use Rattle.ak_ssa.proofs.Words.{number_from}
use Rattle.ak_ssa.proofs.Reading.{regs_read}
use Rattle.ak_ssa.proofs.frame.load.Goals as goal

pub returns : goal.returns
returns c =
    let frame = c.args.frame.now in
    let flags = c.read_u64-flags.result in
    let is = regs_read frame c.registers.result flags c.read_u64.result c.has.result c.has-2.result c.has-3.result c.has-4.result c.mode_of.result
    c.registers.ensures (c.read_u64-flags.ensures ∙ number_from 144 8 frame) (c.read_u64.ensures ∙ number_from 152 8 frame)
    c.has.ensures c.has-2.ensures c.has-3.ensures c.has-4.ensures c.mode_of.ensures in
    record { registers = is; saved = λ regs why whole saved. is ∙ ap regs_in saved ∙ regs_back regs why whole }
