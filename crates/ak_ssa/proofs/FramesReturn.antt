-- A saved frame that fits comes back from its bytes, what is noted of the exit and all. So of two such frames with one sequence of
-- bytes, both are the same.
use Rattle.std.proofs.Common.{◌≡◌, ℕ, ◌+◌, ◌-◌, ◌*◌, ◌<◌, List, [], ◌∷◌, ◌++◌, length, take, drop, refl, ap, sym, ◌∙◌, arith}
use Rattle.std.proofs.lemmas.Bool.Decides.{nat_tests}
use Rattle.std.proofs.lemmas.List.{drop-drop, drop_at}
use Rattle.std.specs.Prelude.{false, ◌^◌, ◌/◌, ◌%◌, flat_map, ◌==◌, if◌then◌else◌}
use Rattle.ak_core.specs.Layout.{Layout}
use Rattle.ak_core.specs.Mem.{access_to}
use Rattle.ak_core.specs.declared.page.Kind.{Kind}
use Rattle.ak_core.specs.declared.page.Kind.TheVariants.{Read, Write, Exec}
use Rattle.ak_core.specs.declared.registers.Regs.{Regs}
use Rattle.ak_model.specs.Flat.Instructions.{le_bytes, le_value, number_at}
use Rattle.ak_ssa.specs.declared.cause.Why.{Why}
use Rattle.ak_ssa.specs.declared.cause.Why.TheVariants.{Interrupt, Vector, PageFault}
use Rattle.ak_ssa.specs.SavedFrames.{SavedCause, NoCause, ByVector, ByPage, SavedFrame, exit_info, fault_address, code_of, fault_code, tail_bytes, saved_bytes, why_of, HasFrame}
use Rattle.ak_ssa.specs.SavedRegisters.{AreRegs}
use Rattle.ak_ssa.specs.ReadFrames.{kind_in, why_by, why_in, cause_of, frame_in}
use Rattle.ak_ssa.specs.FramesFit.{WhyFits, CauseFits, FrameFits, HasRoom}
use Rattle.ak_ssa.proofs.RegistersReturn.{value_back, parts, regs_back}

-- ---- The numbers of what is noted

info_fits : (why : Why) → WhyFits why → exit_info why < 256 ^ 4
info_fits Interrupt fits = omega arith
info_fits (Vector v) fits = omega arith
info_fits (PageFault address kind) fits = omega arith

code_fits : (kind : Kind) → code_of kind < 256 ^ 4
code_fits Read = omega arith
code_fits Write = omega arith
code_fits Exec = omega arith

error_fits : (why : Why) → fault_code why < 256 ^ 4
error_fits Interrupt = omega arith
error_fits (Vector v) = omega arith
error_fits (PageFault address kind) = code_fits kind

address_fits : (why : Why) → WhyFits why → fault_address why < 256 ^ 8
address_fits Interrupt fits = omega arith
address_fits (Vector v) fits = omega arith
address_fits (PageFault address kind) fits = omega arith

-- they give what is noted
kind_back : (kind : Kind) → kind_in (code_of kind) ≡ kind
kind_back Read = refl
kind_back Write = refl
kind_back Exec = refl

no_code : (kind : Kind) → (code_of kind == 0) ≡ false
no_code Read = refl
no_code Write = refl
no_code Exec = refl

noted_back : (why : Why) → WhyFits why → why_by (exit_info why) (fault_code why) (fault_address why) ≡ why
noted_back Interrupt fits = refl
noted_back (Vector v) fits =
    let some : (v + 3 * 256 + 2 ^ 31 == 0) ≡ false = grind (arith, nat_tests) in
    let low : (v + 3 * 256 + 2 ^ 31) % 256 ≡ v = omega arith in
    rw some (ap Vector low)
noted_back (PageFault address kind) fits =
    ap (λ b. if b then Vector ((14 + 3 * 256 + 2 ^ 31) % 256) else PageFault address (kind_in (code_of kind))) (no_code kind)
    ∙ ap (PageFault address) (kind_back kind)

-- ---- The numbers in the bytes

address_at : (regs : Regs) (why : Why) → take 8 (drop 0 (saved_bytes regs why)) ≡ le_bytes 8 (fault_address why)
unfolding saved_bytes
address_at regs why = refl

code_at : (regs : Regs) (why : Why) → take 4 (drop 8 (saved_bytes regs why)) ≡ le_bytes 4 (fault_code why)
unfolding saved_bytes
code_at regs why = refl

-- words of 8 bytes, one after the other
pub length-words : (xs : List ℕ) → length (flat_map (le_bytes 8) xs) ≡ 8 * length xs
length-words [] = refl
length-words (x ∷ xs) = let more = length-words xs in omega (arith, more)

info_at : (regs : Regs) (why : Why) → AreRegs regs → take 4 (drop 176 (saved_bytes regs why)) ≡ le_bytes 4 (exit_info why)
info_at regs why whole =
    let frame = saved_bytes regs why in
    let gpr = flat_map (le_bytes 8) regs.gpr in
    ap (take 4) (sym (drop-drop 160 16 frame) ∙ ap (drop 160) (parts regs why) ∙ sym (drop-drop 32 128 (gpr ++ tail_bytes regs why))
    ∙ ap (drop 32) (drop_at gpr (tail_bytes regs why) 128 (omega (arith, length-words regs.gpr, whole.sixteen))))

-- what is noted comes back
pub why_back : (regs : Regs) (why : Why) → AreRegs regs → WhyFits why → why_in (saved_bytes regs why) ≡ why
why_back regs why whole fits =
    let frame = saved_bytes regs why in
    ap (λ n. why_by n (number_at frame 8 4) (number_at frame 0 8)) (ap le_value (info_at regs why whole) ∙ value_back 4 (exit_info why) (info_fits why fits))
    ∙ ap (λ n. why_by (exit_info why) n (number_at frame 0 8)) (ap le_value (code_at regs why) ∙ value_back 4 (fault_code why) (error_fits why))
    ∙ ap (why_by (exit_info why) (fault_code why)) (ap le_value (address_at regs why) ∙ value_back 8 (fault_address why) (address_fits why fits))
    ∙ noted_back why fits

-- ---- Frames of an enclave

page_back : (base p : ℕ) → (base + 4096 * p - base) / 4096 ≡ p
page_back base p = omega arith

cause_back : (layout : Layout) (cause : SavedCause) → cause_of layout (why_of layout cause) ≡ cause
cause_back layout NoCause = refl
cause_back layout (ByVector v) = refl
cause_back layout (ByPage t) = ap (λ p. ByPage (access_to p t.kind)) (page_back layout.base t.page.0)

cause_fits : (layout : Layout) (cause : SavedCause) → HasRoom layout → CauseFits layout cause → WhyFits (why_of layout cause)
cause_fits layout NoCause room fits = tt
cause_fits layout (ByVector v) room fits = fits
cause_fits layout (ByPage t) room fits = omega arith

-- the frame comes back
pub frame_back : (layout : Layout) → HasRoom layout → (frame : SavedFrame) → FrameFits layout frame → frame_in layout (saved_bytes frame.regs (why_of layout frame.cause)) ≡ frame
frame_back layout room frame fits =
    let why = why_of layout frame.cause in
    let bytes = saved_bytes frame.regs why in
    ap (λ regs. record { regs = regs; cause = cause_of layout (why_in bytes) }) (regs_back frame.regs why fits.words)
    ∙ ap (λ noted. record { regs = frame.regs; cause = cause_of layout noted }) (why_back frame.regs why fits.words (cause_fits layout frame.cause room fits.cause))
    ∙ ap (λ cause. record { regs = frame.regs; cause = cause }) (cause_back layout frame.cause)

-- and from any bytes that have it
pub stored_back : (layout : Layout) → HasRoom layout → (frame : SavedFrame) → FrameFits layout frame → (place : ℕ) (bytes : List ℕ) → HasFrame layout place bytes frame →
    frame_in layout (take 200 (drop place bytes)) ≡ frame
stored_back layout room frame fits place bytes has = ap (frame_in layout) has ∙ frame_back layout room frame fits

-- two frames that fit, in the same bytes at one place, are the same
pub same_frame : (layout : Layout) → HasRoom layout → (place : ℕ) (bytes : List ℕ) (frame other : SavedFrame) → FrameFits layout frame → FrameFits layout other →
    HasFrame layout place bytes frame → HasFrame layout place bytes other → frame ≡ other
same_frame layout room place bytes frame other fits others has have =
    sym (stored_back layout room frame fits place bytes has) ∙ stored_back layout room other others place bytes have
