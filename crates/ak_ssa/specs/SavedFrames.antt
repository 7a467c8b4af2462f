-- The saved frame of a processor. (SDM volume 3D, "State Save Area", "EXITINFO", "EXINFO".)
use Rattle.std.specs.Prelude.{◌≡◌, ℕ, ◌+◌, ◌*◌, ◌^◌, Bool, List, ◌∷◌, ◌++◌, take, drop, flat_map, replicate, if◌then◌else◌}
use Rattle.ak_core.specs.Layout.{Layout}
use Rattle.ak_core.specs.Mem.{Access}
use Rattle.ak_core.specs.declared.page.Kind.{Kind}
use Rattle.ak_core.specs.declared.page.Kind.TheVariants.{Read, Write, Exec}
use Rattle.ak_core.specs.declared.registers.Mode.{Mode}
use Rattle.ak_core.specs.declared.registers.Regs.{Regs}
use Rattle.ak_model.specs.Flat.Instructions.{le_bytes}
use Rattle.ak_model.specs.Flat.FlatRuns.{zeroed}
use Rattle.ak_ssa.specs.declared.cause.Why.{Why}
use Rattle.ak_ssa.specs.declared.cause.Why.TheVariants.{Interrupt, Vector, PageFault}

-- ---- Its bytes, by registers and what is noted of the exit

-- EXITINFO: the vector, type 3 and VALID
abbrev pub exit_info : Why → ℕ
exit_info Interrupt = 0
exit_info (Vector v) = v + 3 * 256 + 2 ^ 31
exit_info (PageFault address kind) = 14 + 3 * 256 + 2 ^ 31

-- MADDR
abbrev pub fault_address : Why → ℕ
fault_address (PageFault address kind) = address
fault_address _ = 0

-- the error code of a kind
abbrev pub code_of : Kind → ℕ
code_of Read = 4
code_of Write = 6
code_of Exec = 20

-- ERRCD
abbrev pub fault_code : Why → ℕ
fault_code (PageFault address kind) = code_of kind
fault_code _ = 0

-- a flag at a weight
abbrev pub bit_if : Bool → ℕ → ℕ
bit_if flag weight = if flag then weight else 0

-- RFLAGS, with its bit that is always set
abbrev pub flags_number : Regs → ℕ
flags_number regs = 2 + bit_if regs.cf 1 + bit_if regs.zf 64 + bit_if regs.sf 128 + bit_if regs.of 2048

-- a mode
abbrev pub mode_number : Mode → ℕ
mode_number Mode.Program = 0
mode_number Mode.Runtime = 1

-- EXINFO
abbrev pub exinfo : Why → List ℕ
exinfo why = le_bytes 8 (fault_address why) ++ (le_bytes 4 (fault_code why) ++ replicate 4 0)

-- what follows the sixteen registers
abbrev pub tail_bytes : Regs → Why → List ℕ
tail_bytes regs why =
    le_bytes 8 (flags_number regs) ++ (le_bytes 8 regs.rip
    ++ (replicate 16 0 ++ (le_bytes 4 (exit_info why) ++ (mode_number regs.mode ∷ replicate 19 0))))

-- the 200 bytes of a saved frame
unfoldable pub saved_bytes : Regs → Why → List ℕ
saved_bytes regs why = exinfo why ++ (flat_map (le_bytes 8) regs.gpr ++ tail_bytes regs why)

-- the bytes have these registers, and this is noted, at a place
abbrev pub HasSaved : ℕ → List ℕ → Regs → Why → Type 0
HasSaved place bytes regs why = take 200 (drop place bytes) ≡ saved_bytes regs why

-- where a saved frame stands in its area
abbrev pub area_place : ℕ
area_place = 3896

-- where it stands in STATE
abbrev pub state_place : ℕ
state_place = 2048

-- ---- Frames of an enclave, whose faults are accesses of its pages

-- what was noted of the exit: nothing, a vector, or a page fault
pub data SavedCause : Type 0 where
  NoCause : SavedCause
  ByVector : (vector : ℕ) → SavedCause
  ByPage : (access : Access) → SavedCause

-- a saved frame
pub record SavedFrame : Type 0 where
  pub regs : Regs
  pub cause : SavedCause

-- why the processor left: a page fault has the page's address
abbrev pub why_of : Layout → SavedCause → Why
why_of layout NoCause = Interrupt
why_of layout (ByVector v) = Vector v
why_of layout (ByPage t) = PageFault (layout.base + 4096 * t.page.0) t.kind

-- the 200 bytes
abbrev pub frame_bytes : Layout → SavedFrame → List ℕ
frame_bytes layout frame = saved_bytes frame.regs (why_of layout frame.cause)

-- the bytes have this frame at a place
abbrev pub HasFrame : Layout → ℕ → List ℕ → SavedFrame → Type 0
HasFrame layout place bytes frame = take 200 (drop place bytes) ≡ frame_bytes layout frame

-- ---- The guard

-- the registers of a guard frame: the runtime's step 16 bytes into CODE comes next, and all else is clear
abbrev pub guard_regs : ℕ → Regs
guard_regs code = record (zeroed (code + 16)) { mode = Mode.Runtime }
