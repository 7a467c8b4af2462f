-- One step of the runtime inside the enclave. (The Autarky paper's self-paging runtime; SDM volume 3D, "State Save Area".)
use Rattle.std.specs.Prelude.{ℕ, zero, suc, true, not, List, [], ◌∷◌, ◌++◌, length, map, drop, find, slice_index, Option, Some, None, nat_lt, ◌==◌, if◌then◌else◌}
use Rattle.std.specs.List.{range_with_len}
use Rattle.ak_core.specs.Layout.{Layout}
use Rattle.ak_core.specs.Mem.{Access, access_to}
use Rattle.ak_core.specs.declared.page.Kind.TheVariants.{Write, Exec}
use Rattle.ak_core.specs.declared.moves.Exit.{Exit}
use Rattle.ak_core.specs.declared.event.StopCause.{StopCause}
use Rattle.ak_core.specs.declared.event.StopCause.TheVariants.{RuntimeUnmapped, FetchNotHonoured, ResumedEarly, Stuck}
use Rattle.ak_model.specs.Paging.Pages.{pages, ssa_page, state_page, code_page, pages_of, strong_kind}
use Rattle.ak_model.specs.Paging.Histories.{History}
use Rattle.ak_model.specs.Paging.Walk.{access_walkable}
use Rattle.ak_model.specs.Clusters.Queue.{drops}
use Rattle.ak_model.specs.Control.ControlState.{Phase, New, Running, Calling, Asked, Ended, Trapped, Dead, Context, Program, Enter, Probe, Finish, Guard, Leave, Reason, Interrupted, Cleared, Raised, Denied, Missed, Broke, Faulted, Saved, Cause, ByBreak, Named, Control, cssa, first_cause}
use Rattle.ak_model.specs.Control.OneTurn.{Turn, Goes, Leaves}

-- ---- Saved contexts

-- the processor's context is saved, and nobody is inside
abbrev pub save : Control → Context → Reason → Control
save control context reason =
    record control { stack = record { context = context; reason = reason } ∷ control.stack; now = None }

-- a saved frame from which nothing goes on but the guard
abbrev pub guard : Saved
guard = record { context = Guard; reason = Cleared }

-- the newest saved context becomes the guard
abbrev pub guard_top : List Saved → List Saved
guard_top [] = []
guard_top (saved ∷ older) = guard ∷ older

-- the oldest saved context becomes the program, to be resumed
abbrev pub program_at_bottom : List Saved → List Saved
program_at_bottom [] = []
program_at_bottom (saved ∷ []) = record { context = Program; reason = Cleared } ∷ []
program_at_bottom (saved ∷ next ∷ older) = saved ∷ program_at_bottom (next ∷ older)

-- ---- The step

-- the pages of the cluster that is asked for
abbrev pub asked_pages : Layout → Phase → List ℕ
asked_pages layout (Asked c) = pages_of layout c
asked_pages layout _ = []

-- the access by which a page of that cluster is probed: for all that the page allows
abbrev pub probed : Layout → Phase → ℕ → Access
probed layout phase i = let p = slice_index (asked_pages layout phase) i in access_to p (strong_kind layout p)

-- what a step accesses, in order, each by a walk of its own
abbrev pub accesses : Layout → Control → Context → List Access
accesses layout control context = access_to (code_page layout) Exec ∷ access_to (state_page layout) Write ∷ own_accesses context
  where
    own_accesses : Context → List Access
    own_accesses (Enter k v) = map (λ i. access_to (ssa_page layout i) Write) (range_with_len 0 k)
    own_accesses (Probe i) = probed layout control.phase i ∷ []
    own_accesses Finish = access_to (ssa_page layout 0) Write ∷ []
    own_accesses _ = []

-- the first access of a step that faults: the first of these that no walk finds
abbrev pub first_fault : Layout → History → List Access → Option Access
first_fault layout past all = find (λ t. not (access_walkable layout past t)) all

-- a page fault, shown to the kernel as a read of the enclave's base
abbrev pub shown_fault : Layout → Exit
shown_fault layout = Exit.Pf layout.base 4

-- with three contexts saved nothing can enter any more
abbrev pub stuck_cause : Control → Access → Option Cause
stuck_cause control t =
    if cssa control == 2 then first_cause control.cause (Named (Stuck t.page t.kind)) else control.cause

-- a step that faults saves its own context; resuming is refused, and the third such fault is the end
abbrev pub fault : Layout → Control → Context → Access → Turn
fault layout control context t =
    Leaves (shown_fault layout) (record (save control context (Faulted t)) { pending = true; cause = stuck_cause control t })

-- the runtime leaves, with nothing saved
abbrev pub leave : Exit → Control → Turn
leave exit control = Leaves exit (record control { now = None })

-- the enclave stops for this cause
abbrev pub die : Cause → Control → Turn
die cause control = leave Exit.Stopped (record control { phase = Dead; cause = first_cause control.cause cause })

-- the newest saved context becomes the guard
abbrev pub guarded : Control → Control
guarded control = record control { stack = guard_top control.stack }

-- both saved contexts become the guard
abbrev pub guarded_twice : List Saved → List Saved
guarded_twice [] = []
guarded_twice (saved ∷ older) = guard_top (saved ∷ []) ++ guard_top older

-- a fault in a probe of the program's own page says that the kernel did not fetch it
abbrev pub nested_cause : Layout → Context → Access → StopCause
nested_cause layout (Probe i) t =
    if nat_lt t.page.0 (pages layout) then FetchNotHonoured t.page t.kind else RuntimeUnmapped t.page t.kind
nested_cause layout _ t = RuntimeUnmapped t.page t.kind

-- the runtime finds its own fault
abbrev pub own_fault : Layout → Control → ℕ → Context → Access → Turn
own_fault layout control k context t =
    if k == 2
    then die (Named (nested_cause layout context t)) (record control { stack = guarded_twice control.stack })
    else die (Named (RuntimeUnmapped t.page t.kind)) (guarded control)

-- the program's vector ends it
abbrev pub trap : Control → ℕ → Turn
trap control v = leave (Exit.Trapped v) (record (guarded control) { phase = Trapped v })

-- the runtime asks for a cluster, and drops from the queue what must leave for it
abbrev pub ask : Layout → Control → ℕ → Turn
ask layout control c =
    let d = drops layout control.queue c in
    leave (Exit.Ask d c) (record (guarded control) { queue = drop d control.queue; phase = Asked c })

-- entering after an asynchronous exit, or after a saved context was dealt with, by what was saved last
abbrev pub handle : Layout → Control → ℕ → List Saved → Turn
handle layout control k [] = leave Exit.Nothing control
handle layout control k (saved ∷ older) = by_reason saved.reason
  where
    by_reason : Reason → Turn
    by_reason Interrupted = leave Exit.Nothing control
    by_reason Cleared = leave Exit.Nothing control
    by_reason (Faulted t) = own_fault layout control k saved.context t
    by_reason (Raised v) = trap control v
    by_reason Denied = trap control 14
    by_reason Broke = die ByBreak (guarded control)
    by_reason (Missed c) = ask layout control c

-- entering at CSSA k with the kernel's value v
abbrev pub enter : Layout → Control → ℕ → ℕ → Phase → Turn
enter layout control k v (Ended s) = leave (Exit.Ended s) control
enter layout control k v (Trapped x) = leave (Exit.Trapped x) control
enter layout control k v Dead = leave Exit.Stopped control
enter layout control zero v New = Goes (record control { phase = Running; now = Some Program })
enter layout control zero v Calling =
    Goes (record control { phase = Running; now = Some Program; returned = control.returned ++ v ∷ [] })
enter layout control (suc zero) v (Asked c) = Goes (record control { now = Some (Probe 0) })
enter layout control k v _ = handle layout control k control.stack

-- the next page of the asked cluster, or the end of the probes
abbrev pub next_probe : Layout → Control → ℕ → Turn
next_probe layout control i =
    Goes (record control { now = if suc i == length (asked_pages layout control.phase) then Some Finish else Some (Probe (suc i)) })

-- the probes are done: the program may be resumed, and the cluster is in
abbrev pub finish : Control → Phase → Turn
finish control (Asked c) =
    leave Exit.Ready (record control { stack = program_at_bottom control.stack; queue = control.queue ++ c ∷ []; phase = Running })
finish control _ = leave Exit.Nothing control

-- the guard was resumed
abbrev pub resume_guard : Control → Phase → Turn
resume_guard control (Asked c) = die (Named ResumedEarly) control
resume_guard control (Trapped x) = leave (Exit.Trapped x) control
resume_guard control _ = leave Exit.Stopped control

-- the program's call leaves the enclave; number 0 ends the program
abbrev pub leave_call : Control → ℕ → ℕ → Turn
leave_call control zero s = leave (Exit.Ended s) (record control { phase = Ended s })
leave_call control (suc b) a = leave (Exit.Call (suc b) a) (record control { phase = Calling })

-- what a step does where none of its accesses faults
abbrev pub effect : Layout → Control → Context → Turn
effect layout control (Enter k v) = enter layout control k v control.phase
effect layout control (Probe i) = next_probe layout control i
effect layout control Finish = finish control control.phase
effect layout control Guard = resume_guard control control.phase
effect layout control (Leave b a) = leave_call control b a
effect layout control Program = Goes control

-- the effect of a step, unless an access faults
abbrev pub unless_fault : Layout → Control → Context → Option Access → Turn
unless_fault layout control context None = effect layout control context
unless_fault layout control context (Some t) = fault layout control context t

-- one step of the runtime in this context
abbrev pub runtime_turn : Layout → History → Control → Context → Turn
runtime_turn layout past control context =
    unless_fault layout control context (first_fault layout past (accesses layout control context))
