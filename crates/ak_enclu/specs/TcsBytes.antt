-- The fields of a TCS that entering and leaving change, in its bytes. (SDM volume 3D, "Thread Control Structure"; the place of the
-- flag that refuses resuming is this project's own.)
use Rattle.std.specs.Prelude.{ℕ, ◌+◌, Bool, true, false, List, ◌==◌, slice_set, if◌then◌else◌}
use Rattle.ak_core.specs.Mem.{put_at}
use Rattle.ak_ssa.specs.declared.cause.Why.{Why}
use Rattle.ak_ssa.specs.declared.cause.Why.TheVariants.{Interrupt, Vector, PageFault}
use Rattle.ak_model.specs.Flat.Instructions.{le_bytes, number_at}

-- CSSA: how many contexts are saved
abbrev pub saved_of : List ℕ → ℕ
saved_of bytes = number_at bytes 24 4

-- resuming is refused
abbrev pub pending_of : List ℕ → Bool
pending_of bytes = number_at bytes 72 1 == 1

-- the bytes with another CSSA
abbrev pub with_saved : ℕ → List ℕ → List ℕ
with_saved saved bytes = put_at bytes 24 (le_bytes 4 saved)

-- the bytes with another flag
abbrev pub with_pending : Bool → List ℕ → List ℕ
with_pending pending bytes = slice_set bytes 72 (if pending then 1 else 0)

-- an exit that refuses resuming until the next entry: each but an interrupt
abbrev pub refuses : Why → Bool
refuses Interrupt = false
refuses (Vector v) = true
refuses (PageFault address kind) = true

-- the bytes after an asynchronous exit: one more context is saved, and resuming is refused where the exit does so, or was before
abbrev pub after_exit : Why → List ℕ → List ℕ
after_exit why bytes =
    let counted = with_saved (saved_of bytes + 1) bytes in if refuses why then with_pending true counted else counted
