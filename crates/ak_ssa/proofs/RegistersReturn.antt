-- The registers in a saved frame's bytes are those of the frame.
use Rattle.std.proofs.Common.{◌≡◌, ℕ, zero, suc, ◌+◌, ◌*◌, ◌<◌, List, [], ◌∷◌, ◌++◌, length, drop, refl, ap, ◌∙◌, subst, arith}
use Rattle.std.proofs.Math.Nat.{mod-add-div, div-lt_iff_lt-mul}
use Rattle.std.specs.Prelude.{Bool, true, false, ◌^◌, ◌/◌, ◌%◌, take, flat_map}
use Rattle.ak_core.specs.Layout.{Layout}
use Rattle.ak_core.specs.declared.registers.Mode.{Mode}
use Rattle.ak_core.specs.declared.registers.Regs.{Regs}
use Rattle.ak_model.specs.Flat.Instructions.{le_bytes, le_value}
use Rattle.ak_ssa.specs.declared.cause.Why.{Why}
use Rattle.ak_ssa.specs.SavedFrames.{SavedFrame, bit_if, mode_number, tail_bytes, saved_bytes, why_of, area_place, HasFrame}
use Rattle.ak_ssa.specs.SavedRegisters.{AreWords, AreRegs, words_in, after_words, flag_in, mode_in, regs_by, regs_in, area_regs}

-- a number that fits so many bytes comes back from them
pub value_back : (n x : ℕ) → x < 256 ^ n → le_value (le_bytes n x) ≡ x
value_back zero x lt = omega arith
value_back (suc n) x lt =
    let small : x / 256 < 256 ^ n = (div-lt_iff_lt-mul (omega arith)).1 (omega arith) in
    ap (λ y. x % 256 + 256 * y) (value_back n (x / 256) small) ∙ mod-add-div x 256

-- words come back
words_back : (xs rest : List ℕ) → AreWords xs → words_in (length xs) (flat_map (le_bytes 8) xs ++ rest) ≡ xs
words_back [] rest h = refl
words_back (x ∷ xs) rest h = ap (λ y. y ∷ words_in (length xs) (flat_map (le_bytes 8) xs ++ rest)) (value_back 8 x h.0) ∙ ap (λ ys. x ∷ ys) (words_back xs rest h.1)

-- and what follows them
pub past_words : (xs rest : List ℕ) → after_words (length xs) (flat_map (le_bytes 8) xs ++ rest) ≡ rest
past_words [] rest = refl
past_words (x ∷ xs) rest = past_words xs rest

flags_back : (cf zf sf of : Bool) → (let n = le_value (le_bytes 8 (2 + bit_if cf 1 + bit_if zf 64 + bit_if sf 128 + bit_if of 2048)) in
    (flag_in n 1 ≡ cf) × (flag_in n 64 ≡ zf) × (flag_in n 128 ≡ sf) × (flag_in n 2048 ≡ of))
flags_back true true true true = (refl, refl, refl, refl)
flags_back true true true false = (refl, refl, refl, refl)
flags_back true true false true = (refl, refl, refl, refl)
flags_back true true false false = (refl, refl, refl, refl)
flags_back true false true true = (refl, refl, refl, refl)
flags_back true false true false = (refl, refl, refl, refl)
flags_back true false false true = (refl, refl, refl, refl)
flags_back true false false false = (refl, refl, refl, refl)
flags_back false true true true = (refl, refl, refl, refl)
flags_back false true true false = (refl, refl, refl, refl)
flags_back false true false true = (refl, refl, refl, refl)
flags_back false true false false = (refl, refl, refl, refl)
flags_back false false true true = (refl, refl, refl, refl)
flags_back false false true false = (refl, refl, refl, refl)
flags_back false false false true = (refl, refl, refl, refl)
flags_back false false false false = (refl, refl, refl, refl)

mode_back : (mode : Mode) → mode_in (mode_number mode + 256 * 0) ≡ mode
mode_back Mode.Program = refl
mode_back Mode.Runtime = refl

pub parts : (regs : Regs) (why : Why) → drop 16 (saved_bytes regs why) ≡ flat_map (le_bytes 8) regs.gpr ++ tail_bytes regs why
unfolding saved_bytes
parts regs why = refl

tail_back : (regs : Regs) (why : Why) → AreRegs regs → regs_by regs.gpr (tail_bytes regs why) ≡ regs
tail_back regs why whole =
    let f = flags_back regs.cf regs.zf regs.sf regs.of in
    let r : le_value (take 8 (drop 8 (tail_bytes regs why))) ≡ regs.rip = value_back 8 regs.rip whole.rip in
    let m : mode_in (le_value (take 1 (drop 36 (tail_bytes regs why)))) ≡ regs.mode = mode_back regs.mode in
    rw (r, m, f.0, f.1, f.2, f.3) refl

-- the registers in a frame's bytes
pub regs_back : (regs : Regs) (why : Why) → AreRegs regs → regs_in (saved_bytes regs why) ≡ regs
regs_back regs why whole =
    let gpr = flat_map (le_bytes 8) regs.gpr in
    let tail = tail_bytes regs why in
    ap (λ bytes. regs_by (words_in 16 bytes) (after_words 16 bytes)) (parts regs why)
    ∙ ap (λ words. regs_by words (after_words 16 (gpr ++ tail))) (subst (λ n. words_in n (gpr ++ tail) ≡ regs.gpr) whole.sixteen (words_back regs.gpr tail whole.words))
    ∙ ap (regs_by regs.gpr) (subst (λ n. after_words n (gpr ++ tail) ≡ tail) whole.sixteen (past_words regs.gpr tail))
    ∙ tail_back regs why whole

-- the registers that an area with this frame holds
pub area_back : (layout : Layout) (bytes : List ℕ) (frame : SavedFrame) → AreRegs frame.regs → HasFrame layout area_place bytes frame → area_regs bytes ≡ frame.regs
area_back layout bytes frame whole stored = ap regs_in stored ∙ regs_back frame.regs (why_of layout frame.cause) whole
