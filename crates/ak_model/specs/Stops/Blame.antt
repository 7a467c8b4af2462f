-- Which move of the kernel is to blame for a stop: a place in the history, from 1. It is 0 where there is no such move.
use Rattle.std.specs.Prelude.{ℕ, ◌+◌, Bool, true, false, ◌&&◌, not, List, [], ◌∷◌, length, max, ◌==◌, if◌then◌else◌}
use Rattle.ak_core.specs.Layout.{Layout}
use Rattle.ak_core.specs.Mem.{Access}
use Rattle.ak_core.specs.declared.moves.Exit.{Exit}
use Rattle.ak_core.specs.declared.moves.Exit.TheVariants.{Pf}
use Rattle.ak_core.specs.declared.event.StopCause.{StopCause}
use Rattle.ak_core.specs.declared.event.StopCause.TheVariants.{Unmapped, RuntimeUnmapped, FetchNotHonoured, ResumedEarly, Stuck}
use Rattle.ak_model.specs.Paging.Histories.{History, Change, change_of, Enters, Resumes, Exits}
use Rattle.ak_model.specs.Paging.Walk.{access_walkable}
use Rattle.ak_model.specs.Kernels.Counted.{saved_count}

-- a page fault
abbrev pub is_fault : Exit → Bool
is_fault (Pf base code) = true
is_fault _ = false

-- the processor left by a page fault
abbrev pub faults : Change → Bool
faults (Exits lp exit) = is_fault exit
faults _ = false

-- of a list, the newest first, what is before the last item of which a test holds, given what is before the item
abbrev pub before_last : {A : Type 0} → (A → List A → Bool) → List A → List A
before_last test [] = []
before_last test (item ∷ older) = if test item older then older else before_last test older

-- the history before the last page fault
abbrev pub past_before_fault : History → History
past_before_fault past = before_last (λ pair. λ older. faults (change_of pair)) past

-- the place of the last move that made an access fail: a walk found its page before, and finds it no more
abbrev pub lost_at : Layout → History → Access → ℕ
lost_at layout [] t = 0
lost_at layout (pair ∷ past) t =
    if access_walkable layout past t && not (access_walkable layout (pair ∷ past) t) then length past + 1 else lost_at layout past t

-- an entering while one context is saved
abbrev pub enters_at_one : Change → ℕ → Bool
enters_at_one (Enters lp v) saved = saved == 1
enters_at_one _ saved = false

-- the place of the last entering at CSSA 1
abbrev pub returned_at : History → ℕ
returned_at [] = 0
returned_at (pair ∷ past) = if enters_at_one (change_of pair) (saved_count past) then length past + 1 else returned_at past

-- a resuming
abbrev pub resumes : Change → Bool
resumes (Resumes lp) = true
resumes _ = false

-- the place of the last resuming
abbrev pub resumed_at : History → ℕ
resumed_at [] = 0
resumed_at (pair ∷ past) = if resumes (change_of pair) then length past + 1 else resumed_at past

-- the blamed move, by the history before the move in which the enclave stopped. The fault that a cause names, but for
-- Stuck, is the last one before that move. For Stuck it is that move itself
abbrev pub blame : Layout → History → StopCause → ℕ
blame layout past (Unmapped p kind) = lost_at layout (past_before_fault past) (record { page = p; kind = kind })
blame layout past (RuntimeUnmapped p kind) = lost_at layout (past_before_fault past) (record { page = p; kind = kind })
blame layout past (FetchNotHonoured p kind) =
    max (returned_at past) (lost_at layout (past_before_fault past) (record { page = p; kind = kind }))
blame layout past ResumedEarly = resumed_at past
blame layout past (Stuck p kind) = lost_at layout past (record { page = p; kind = kind })
