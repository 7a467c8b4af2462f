-- What the bytes of saved-state areas and STATE say. (SDM volume 3D, "State Save Area"; STATE is this project's own.)
use Rattle.std.specs.Prelude.{◌≡◌, ℕ, ◌+◌, ◌*◌, ◌<◌, List, [], ◌∷◌, length, slice_get, Option, Some, None}
use Rattle.ak_core.specs.Layout.{Layout}
use Rattle.ak_model.specs.Paging.Pages.{ssa_page}
use Rattle.ak_model.specs.Flat.FlatRuns.{Flat}
use Rattle.ak_model.specs.Flat.Instructions.{number_at}
use Rattle.ak_model.specs.Control.ControlState.{Phase, New, Running, Calling, Asked, Ended, Trapped, Dead, Saved}
use Rattle.ak_ssa.specs.SavedFrames.{SavedFrame, area_place, state_place, HasFrame}
use Rattle.ak_ssa.specs.SavedRegisters.{AreRegs}
use Rattle.ak_ssa.specs.FramesFit.{FrameFits}
use Rattle.ak_pager.specs.Contexts.{Gives, IsNoted}

-- the bytes of each page's newest copy, where it has one
abbrev pub Copies : Type 0
Copies = ℕ → Option (List ℕ)

-- this holds of the bytes, where there are any
abbrev pub OfCopy : Option (List ℕ) → (List ℕ → Type 0) → Type 0
OfCopy None holds = Unit {0}
OfCopy (Some bytes) holds = holds bytes

-- ---- Saved-state areas

-- the bytes hold the frame of a saved context
pub record IsArea (layout : Layout) (phase : Phase) (queue : List ℕ) (flat : Flat) (saved : Saved) (bytes : List ℕ) : Type 0 where
  pub frame : SavedFrame
  pub stored : HasFrame layout area_place bytes frame
  pub fits : FrameFits layout frame
  pub noted : IsNoted layout queue saved.context saved.reason frame.cause
  pub registers : Gives layout phase flat saved.context frame.regs

-- each saved context is in its area, the oldest in the first
abbrev pub AreasStand : Layout → Phase → List ℕ → Flat → Copies → List Saved → Type 0
AreasStand layout phase queue flat copies [] = Unit {0}
AreasStand layout phase queue flat copies (saved ∷ older) =
    OfCopy (copies (ssa_page layout (length older))) (IsArea layout phase queue flat saved)
    × AreasStand layout phase queue flat copies older

-- ---- STATE

-- the number of a phase
abbrev pub phase_number : Phase → ℕ
phase_number New = 0
phase_number Running = 1
phase_number Calling = 2
phase_number (Asked c) = 3
phase_number (Ended s) = 4
phase_number (Trapped v) = 5
phase_number Dead = 6

-- what a phase says besides: the cluster that is asked for, the status, or the vector, which has 8 bits
abbrev pub SaysMore : Phase → List ℕ → Type 0
SaysMore (Asked c) bytes = number_at bytes 8 8 ≡ c
SaysMore (Ended s) bytes = number_at bytes 16 8 ≡ s
SaysMore (Trapped v) bytes = (number_at bytes 16 8 ≡ v) × (v < 256)
SaysMore _ bytes = Unit {0}

-- the frame that STATE keeps has the program's registers
pub record KeepsProgram (layout : Layout) (flat : Flat) (bytes : List ℕ) : Type 0 where
  pub frame : SavedFrame
  pub stored : HasFrame layout state_place bytes frame
  pub words : AreRegs frame.regs
  pub registers : frame.regs ≡ flat.regs

-- while a cluster is asked for or a call is out, it keeps one
abbrev pub KeepsFrame : Phase → Layout → Flat → List ℕ → Type 0
KeepsFrame (Asked c) layout flat bytes = KeepsProgram layout flat bytes
KeepsFrame Calling layout flat bytes = KeepsProgram layout flat bytes
KeepsFrame _ layout flat bytes = Unit {0}

-- the bytes say the phase and the queue
pub record IsState (layout : Layout) (phase : Phase) (queue : List ℕ) (flat : Flat) (bytes : List ℕ) : Type 0 where
  pub phase_is : number_at bytes 0 8 ≡ phase_number phase
  pub more : SaysMore phase bytes
  pub size : number_at bytes 24 8 ≡ length queue
  pub clusters : (i c : ℕ) → slice_get queue i ≡ Some c → number_at bytes (1024 + 2 * i) 2 ≡ c
  pub kept : KeepsFrame phase layout flat bytes
