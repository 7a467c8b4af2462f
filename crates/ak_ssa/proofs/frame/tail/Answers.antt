use Rattle.std.proofs.Common.{◌∷◌, ◌++◌, replicate, ap, ◌∙◌}
use Rattle.ak_model.specs.Flat.Instructions.{le_bytes}
use Rattle.ak_ssa.specs.SavedFrames.{flags_number, exit_info}
use Rattle.ak_ssa.proofs.Parts.{tail_is}
use Rattle.ak_ssa.proofs.frame.tail.Goals as goal

pub returns : goal.returns
returns c =
    let regs = c.args.regs.now in
    let flags = c.flags_of.result in
    let info = c.exit_info.result in
    let mode = c.mode_number.result in
    tail_is flags regs.rip info mode c.write_u64.new.buf c.write_u64-2.new.buf c.write_u32.new.buf c.write_u64.ensures c.write_u64-2.ensures c.write_u32.ensures
    ∙ ap (λ n. le_bytes 8 n ++ (le_bytes 8 regs.rip ++ (replicate 16 0 ++ (le_bytes 4 info ++ (mode ∷ replicate 19 0))))) c.flags_of.ensures
    ∙ ap (λ n. le_bytes 8 (flags_number regs) ++ (le_bytes 8 regs.rip ++ (replicate 16 0 ++ (le_bytes 4 n ++ (mode ∷ replicate 19 0))))) c.exit_info.ensures
    ∙ ap (λ n. le_bytes 8 (flags_number regs) ++ (le_bytes 8 regs.rip ++ (replicate 16 0 ++ (le_bytes 4 (exit_info c.args.why) ++ (n ∷ replicate 19 0))))) c.mode_number.ensures
