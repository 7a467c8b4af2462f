-- Frames whose numbers fit their bytes: of two such frames with one sequence of bytes, both are the same. So what a step reads is
-- determined by the bytes.
use Rattle.std.specs.Prelude.{◌+◌, ◌*◌, ◌^◌, ◌<◌}
use Rattle.ak_core.specs.Layout.{Layout}
use Rattle.ak_model.specs.Paging.Pages.{all_pages}
use Rattle.ak_ssa.specs.declared.cause.Why.{Why}
use Rattle.ak_ssa.specs.declared.cause.Why.TheVariants.{Interrupt, Vector, PageFault}
use Rattle.ak_ssa.specs.SavedFrames.{SavedCause, NoCause, ByVector, ByPage, SavedFrame}
use Rattle.ak_ssa.specs.SavedRegisters.{AreRegs}

-- a vector of 8 bits, or an address of 64
abbrev pub WhyFits : Why → Type 0
WhyFits Interrupt = Unit {0}
WhyFits (Vector v) = v < 256
WhyFits (PageFault address kind) = address < 2 ^ 64

-- a vector of 8 bits, or a page of the enclave
abbrev pub CauseFits : Layout → SavedCause → Type 0
CauseFits layout NoCause = Unit {0}
CauseFits layout (ByVector v) = v < 256
CauseFits layout (ByPage t) = t.page.0 < all_pages layout

-- a frame that fits
pub record FrameFits (layout : Layout) (frame : SavedFrame) : Type 0 where
  pub words : AreRegs frame.regs
  pub cause : CauseFits layout frame.cause

-- the enclave's addresses are numbers of 64 bits
abbrev pub HasRoom : Layout → Type 0
HasRoom layout = layout.base + 4096 * all_pages layout < 2 ^ 64
