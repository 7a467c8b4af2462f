-- What a program page may be while the honest kernel is at work, and what each history says of it then.
use Rattle.std.specs.Prelude.{◌≡◌, ℕ, ◌≤◌, ◌<◌, Option, Some, None}
use Rattle.ak_core.specs.Layout.{Layout}
use Rattle.ak_core.specs.declared.page.Flags.{Flags}
use Rattle.ak_model.specs.Paging.Pages.{perm_of, strong_flags, no_flags}
use Rattle.ak_model.specs.Paging.Holdings.{Place, InFrame, InHandle, Mapping}
use Rattle.ak_model.specs.Paging.Histories.{History}
use Rattle.ak_model.specs.Paging.Frames.{blocked_at}
use Rattle.ak_model.specs.Paging.Handles.{place, slot}
use Rattle.ak_model.specs.Paging.PageTable.{pte}
use Rattle.ak_model.specs.Kernels.HonestKernel.{Copy, newest_copy}

-- a page is sealed and unmapped; in a frame and unmapped; so and blocked; or in a frame and mapped for all that it allows
pub data PageState : Type 0 where
  Out : PageState
  Unmapped : PageState
  Blocked : PageState
  In : PageState

-- the newest copy is sealed, and its version is in the page's own slot of frame 1
pub record IsSealed (p : ℕ) (place : Place) (copy : Copy) (slot : Option ℕ) : Type 0 where
  pub handle : ℕ
  pub placed : place ≡ InHandle handle
  pub copied : copy ≡ record { handle = handle; va = 1; slot = p }
  pub slotted : slot ≡ Some handle

-- the page is in a frame after the runtime's, and its own slot of frame 1 is empty
pub record IsHeld (frames : ℕ) (place : Place) (slot : Option ℕ) : Type 0 where
  pub frame : ℕ
  pub placed : place ≡ InFrame frame
  pub low : 8 ≤ frame
  pub high : frame < frames
  pub emptied : slot ≡ None

-- what a state says of the page's place, its newest copy, its slot, its entry and the blocks of frames
abbrev pub IsInStateBy : ℕ → Flags → ℕ → PageState → Place → Copy → Option ℕ → Mapping → (ℕ → Option ℕ) → Type 0
IsInStateBy frames full p Out place copy slot entry blocked = IsSealed p place copy slot × (entry.flags ≡ no_flags)
IsInStateBy frames full p Unmapped place copy slot entry blocked =
    (held : IsHeld frames place slot) × (blocked held.frame ≡ None) × (entry.flags ≡ no_flags)
IsInStateBy frames full p Blocked place copy slot entry blocked =
    (held : IsHeld frames place slot) × ((at : ℕ) × (blocked held.frame ≡ Some at)) × (entry.flags ≡ no_flags)
IsInStateBy frames full p In place copy slot entry blocked =
    (held : IsHeld frames place slot) × (blocked held.frame ≡ None) × (entry ≡ record { frame = held.frame; flags = full })

-- the page is in this state
abbrev pub IsInState : Layout → History → ℕ → PageState → Type 0
IsInState layout past p state =
    IsInStateBy layout.frames (strong_flags (perm_of layout p)) p state (place layout past p) (newest_copy layout past p) (slot layout past 1 p) (pte layout past p) (blocked_at past)
