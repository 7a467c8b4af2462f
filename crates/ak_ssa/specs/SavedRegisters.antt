-- The registers in the bytes of a saved frame. (SDM volume 3D, "GPRSGX Region", ERESUME.)
use Rattle.std.specs.Prelude.{◌≡◌, ℕ, zero, suc, ◌^◌, ◌/◌, ◌%◌, ◌<◌, Bool, List, [], ◌∷◌, length, take, drop, ◌==◌, if◌then◌else◌}
use Rattle.ak_core.specs.declared.registers.Mode.{Mode}
use Rattle.ak_core.specs.declared.registers.Regs.{Regs}
use Rattle.ak_model.specs.Flat.Instructions.{le_value}
use Rattle.ak_ssa.specs.SavedFrames.{area_place}

-- numbers of 64 bits
abbrev pub AreWords : List ℕ → Type 0
AreWords [] = Unit {0}
AreWords (x ∷ xs) = (x < 2 ^ 64) × AreWords xs

-- registers of a processor: sixteen, each of 64 bits
pub record AreRegs (regs : Regs) : Type 0 where
  pub sixteen : length regs.gpr ≡ 16
  pub words : AreWords regs.gpr
  pub rip : regs.rip < 2 ^ 64

-- so many words of 8 bytes
abbrev pub words_in : ℕ → List ℕ → List ℕ
words_in zero bytes = []
words_in (suc n) bytes = le_value (take 8 bytes) ∷ words_in n (drop 8 bytes)

-- what follows them
abbrev pub after_words : ℕ → List ℕ → List ℕ
after_words zero bytes = bytes
after_words (suc n) bytes = after_words n (drop 8 bytes)

-- a flag of this weight in RFLAGS
abbrev pub flag_in : ℕ → ℕ → Bool
flag_in flags weight = flags / weight % 2 == 1

-- the mode of a number
abbrev pub mode_in : ℕ → Mode
mode_in n = if n == 0 then Mode.Program else Mode.Runtime

-- registers from the sixteen, and from what follows them in a frame
abbrev pub regs_by : List ℕ → List ℕ → Regs
regs_by gpr tail =
    let flags = le_value (take 8 tail) in
    record {
      gpr = gpr;
      rip = le_value (take 8 (drop 8 tail));
      cf = flag_in flags 1;
      zf = flag_in flags 64;
      sf = flag_in flags 128;
      of = flag_in flags 2048;
      mode = mode_in (le_value (take 1 (drop 36 tail)));
    }

-- the registers in 200 bytes
abbrev pub regs_in : List ℕ → Regs
regs_in frame = regs_by (words_in 16 (drop 16 frame)) (after_words 16 (drop 16 frame))

-- the registers that an area holds
abbrev pub area_regs : List ℕ → Regs
area_regs bytes = regs_in (take 200 (drop area_place bytes))
