use Rattle.std.proofs.Common.{◌≡◌, ◌++◌, ap, sym, ◌∙◌, length}
use Rattle.std.specs.Prelude.{flat_map}
use Rattle.ak_model.specs.Flat.Instructions.{le_bytes}
use Rattle.ak_ssa.specs.SavedFrames.{exinfo, saved_bytes}
use Rattle.ak_ssa.proofs.Parts.{three, first_sixteen, mid_size}
use Rattle.ak_ssa.proofs.Words.{words-8}
use Rattle.ak_ssa.proofs.frame.save.Goals as goal

pub copy_from_slice-requires : goal.copy_from_slice-requires
copy_from_slice-requires c = first_sixteen c.args.frame.now c.requires ∙ sym (ap length c.head.ensures)

pub returns : goal.returns
unfolding saved_bytes
returns c =
    let old = c.args.frame.now in
    let h = c.copy_from_slice.new.self in
    let g = c.write_u64_into.new.dst in
    let t = c.copy_from_slice-2.new.self in
    let head : h ≡ exinfo c.args.why = c.copy_from_slice.ensures.after ∙ c.head.ensures in
    let tail = c.copy_from_slice-2.ensures.after ∙ c.tail.ensures in
    three h g t old (ap length head) (c.write_u64_into.auto.dst ∙ mid_size h old (ap length head) c.requires)
    ∙ ap (λ l. l ++ (g ++ t)) head ∙ ap (λ l. exinfo c.args.why ++ (l ++ t)) (c.write_u64_into.ensures ∙ words-8 c.args.regs.now.gpr)
    ∙ ap (λ l. exinfo c.args.why ++ (flat_map (le_bytes 8) c.args.regs.now.gpr ++ l)) tail
