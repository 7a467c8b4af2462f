-- The saved frame that bytes hold, read back from them: what is noted of the exit, by EXITINFO, ERRCD and MADDR. (SDM volume 3D,
-- "EXITINFO", "EXINFO".)
use Rattle.std.specs.Prelude.{ℕ, ◌-◌, ◌/◌, ◌%◌, ◌++◌, List, take, drop, replicate, ◌==◌, if◌then◌else◌}
use Rattle.ak_core.specs.Layout.{Layout}
use Rattle.ak_core.specs.Mem.{access_to}
use Rattle.ak_core.specs.declared.page.Kind.{Kind}
use Rattle.ak_core.specs.declared.page.Kind.TheVariants.{Read, Write, Exec}
use Rattle.ak_model.specs.Flat.Instructions.{number_at}
use Rattle.ak_ssa.specs.declared.cause.Why.{Why}
use Rattle.ak_ssa.specs.declared.cause.Why.TheVariants.{Interrupt, Vector, PageFault}
use Rattle.ak_ssa.specs.SavedFrames.{SavedCause, NoCause, ByVector, ByPage, SavedFrame, area_place}
use Rattle.ak_ssa.specs.SavedRegisters.{regs_in}

-- the kind of an error code
abbrev pub kind_in : ℕ → Kind
kind_in code = if code == 4 then Read else (if code == 6 then Write else Exec)

-- what is noted, by EXITINFO, ERRCD and MADDR
abbrev pub why_by : ℕ → ℕ → ℕ → Why
why_by info code address =
    if info == 0 then Interrupt else (if code == 0 then Vector (info % 256) else PageFault address (kind_in code))

-- what 200 bytes note: EXITINFO stands 160 bytes into the register area, which follows EXINFO
abbrev pub why_in : List ℕ → Why
why_in frame = why_by (number_at frame 176 4) (number_at frame 8 4) (number_at frame 0 8)

-- what an area notes
abbrev pub area_why : List ℕ → Why
area_why bytes = why_in (take 200 (drop area_place bytes))

-- the 200 bytes with EXINFO and EXITINFO cleared
abbrev pub cleared : List ℕ → List ℕ
cleared frame = replicate 16 0 ++ (take 160 (drop 16 frame) ++ (replicate 4 0 ++ drop 180 frame))

-- the cause, in an enclave: a page fault is of the page of its address
abbrev pub cause_of : Layout → Why → SavedCause
cause_of layout Interrupt = NoCause
cause_of layout (Vector v) = ByVector v
cause_of layout (PageFault address kind) = ByPage (access_to ((address - layout.base) / 4096) kind)

-- the frame in 200 bytes
abbrev pub frame_in : Layout → List ℕ → SavedFrame
frame_in layout bytes = record { regs = regs_in bytes; cause = cause_of layout (why_in bytes) }
