-- What is known of a result that is what the table says.
use Rattle.std.proofs.Common.{◌≡◌, ℕ, ◌≤◌, List, length, refl, sym, ◌∙◌, subst}
use Rattle.ak_core.specs.declared.instruction.Instr.{Instr}
use Rattle.ak_core.specs.declared.instruction.Decoded.{Decoded}
use Rattle.ak_core.specs.declared.instruction.Decoded.TheVariants.{Whole, NeedMore, Illegal}
use Rattle.ak_model.specs.Flat.Encodings.{decode}
use Rattle.ak_model.specs.Flat.Beginnings.{Decodes, IfWhole}
use Rattle.ak_model.specs.Flat.Instructions.{HasRegisters}
use Rattle.ak_model.proofs.Flat.Decoding.{decode-length, decode-size, decode-registers}
use Rattle.ak_model.proofs.Flat.DecodedBothWays.{decoded_both_ways}

pub both_ways : (bytes : List ℕ) (d : Decoded) → d ≡ decode bytes → Decodes bytes d
both_ways bytes d e = subst (Decodes bytes) (sym e) (decoded_both_ways bytes)

if_whole : (d : Decoded) (P : Instr → ℕ → Type 0) → ((instr : Instr) (n : ℕ) → d ≡ Whole instr n → P instr n) → IfWhole d P
if_whole (Whole instr n) P h = h instr n refl
if_whole NeedMore P h = tt
if_whole Illegal P h = tt

pub within : (bytes : List ℕ) (d : Decoded) → d ≡ decode bytes → IfWhole d (λ instr n. (n ≤ 10) × (n ≤ length bytes))
within bytes d e =
    if_whole d (λ instr n. (n ≤ 10) × (n ≤ length bytes))
    (λ instr n w. (decode-size bytes instr n (sym e ∙ w), decode-length bytes instr n (sym e ∙ w)))

pub registers : (bytes : List ℕ) (d : Decoded) → d ≡ decode bytes → IfWhole d (λ instr n. HasRegisters instr)
registers bytes d e = if_whole d (λ instr n. HasRegisters instr) (λ instr n w. decode-registers bytes instr n (sym e ∙ w))
