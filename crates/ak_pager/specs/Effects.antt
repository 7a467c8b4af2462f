-- What parts of a step touch, read and change.
use Rattle.std.specs.Prelude.{◌≡◌, ◌≢◌, ℕ, suc, ◌<◌, Bool, true, List, [], ◌∷◌, ◌++◌, map, All, Option, Some, None, Result, Ok, Err, OnOk, IfErr}
use Rattle.std.specs.List.{range_with_len}
use Rattle.ak_core.specs.Layout.{Layout}
use Rattle.ak_core.specs.Mem.{Access, access_to}
use Rattle.ak_core.specs.declared.memory.Mem.{Ghosts as IsMem}
use Rattle.ak_core.specs.declared.page.Fault.{Fault}
use Rattle.ak_core.specs.declared.page.Kind.TheVariants.{Write, Exec}
use Rattle.ak_core.specs.declared.registers.Regs.{Regs}
use Rattle.ak_model.specs.Paging.Pages.{code_page, ssa_page, state_page}
use Rattle.ak_model.specs.Flat.FlatRuns.{Flat}
use Rattle.ak_model.specs.Control.ControlState.{Context, Control}
use Rattle.ak_cluster.specs.QueueBytes.{HasQueue, IsQueue}
use Rattle.ak_ssa.specs.SavedFrames.{area_place, HasFrame}
use Rattle.ak_ssa.specs.FramesFit.{FrameFits}
use Rattle.ak_pager.specs.declared.turn.RtTurn.{RtTurn}
use Rattle.ak_pager.specs.Rows.{StateChange, AreaChange, Reads}
use Rattle.ak_pager.specs.StepsTo.{IsAskedFor, memory_of, MayStep, StateIs, AreasAre, ReadsKept, StepsTo}
use Rattle.ak_pager.specs.Remembered.{SaysPhase}

-- ---- Memory

-- what the memory keeps, and which pages are held
pub record KeepsMemory {M : Type 0} (is : IsMem M) (old new : M) : Type 0 where
  pub holds : is.holds new ≡ is.holds old
  pub keeps : is.keeps old new

-- these, and the accesses
pub record KeepsAccesses {M : Type 0} (is : IsMem M) (old new : M) : Type 0 where
  pub holds : is.holds new ≡ is.holds old
  pub keeps : is.keeps old new
  pub granted : is.granted new ≡ is.granted old
  pub refused : is.refused new ≡ is.refused old

-- the other pages keep their bytes
abbrev pub OthersStay : ℕ → (ℕ → List ℕ) → (ℕ → List ℕ) → Type 0
OthersStay p old new = (q : ℕ) → q ≢ p → new q ≡ old q

-- what changes in STATE and the areas, and nothing else does
pub record Changes (layout : Layout) (on_state : StateChange) (on_areas : AreaChange) (old new : ℕ → List ℕ) : Type 0 where
  pub state : StateIs on_state (old (state_page layout)) (new (state_page layout))
  pub areas : AreasAre layout on_areas old new
  pub others : (p : ℕ) → p ≢ state_page layout → ((i : ℕ) → i < 3 → p ≢ ssa_page layout i) → new p ≡ old p

-- ---- Touches

-- each access is granted in order; or one is refused, after those before it
pub record TouchesAll {T : Type 0} (all : List Access) (result : Result T Fault) (holds : ℕ → Bool) (before after : List Access) (refused : Option Access) : Type 0 where
  pub ok : OnOk result (after ≡ before ++ all)
  pub held : OnOk result (All (λ t. holds t.page.0 ≡ true) all)
  pub unrefused : OnOk result (refused ≡ None)
  pub err : IfErr result (λ t. (later : List Access) × (after ++ t ∷ later ≡ before ++ all))
  pub refused_is : IfErr result (λ t. refused ≡ Some t)

-- what each step touches first
abbrev pub first_accesses : Layout → List Access
first_accesses layout = access_to (code_page layout) Exec ∷ access_to (state_page layout) Write ∷ []

-- the first areas
abbrev pub area_accesses : Layout → ℕ → List Access
area_accesses layout k = map (λ i. access_to (ssa_page layout i) Write) (range_with_len 0 k)

-- code and STATE were touched, and nothing was refused
pub record HasBegun {M : Type 0} (is : IsMem M) (layout : Layout) (mem : M) : Type 0 where
  pub granted : is.granted mem ≡ first_accesses layout
  pub refused : is.refused mem ≡ None
  pub held : is.holds mem (state_page layout) ≡ true

-- ---- Reading

-- the bytes of STATE and of the areas say what a row depends on, where so many contexts are saved
pub record AreReads (layout : Layout) (saved : ℕ) (bytes : ℕ → List ℕ) (r : Reads) : Type 0 where
  pub phase : SaysPhase r.phase (bytes (state_page layout))
  pub asked : IsAskedFor layout r.queue r.phase
  pub queue : HasQueue (bytes (state_page layout)) r.queue
  pub is_queue : IsQueue r.queue
  pub state : r.state ≡ bytes (state_page layout)
  pub first : r.first ≡ bytes (ssa_page layout 0)
  pub kept : ReadsKept layout r.phase (bytes (state_page layout)) r.kept
  pub newest : (k : ℕ) → saved ≡ suc k → HasFrame layout area_place (bytes (ssa_page layout k)) r.saved × FrameFits layout r.saved

-- they say something
abbrev pub AreSomeReads : Layout → ℕ → (ℕ → List ℕ) → Type 0
AreSomeReads layout saved bytes = (r : Reads) × AreReads layout saved bytes r

-- ---- Steps

-- a step is defined, in some context
abbrev pub SomeStep : Layout → Regs → (ℕ → Bool) → (ℕ → List ℕ) → Type 0
SomeStep layout regs holds bytes =
    (control : Control) × (context : Context) × (flat : Flat) × MayStep layout control context flat regs (memory_of holds bytes)

-- in each context for which it is defined, it comes to this
abbrev pub StepsAlways : Layout → Regs → (ℕ → Bool) → (ℕ → List ℕ) → (ℕ → List ℕ) → List Access → Option Access → RtTurn → Regs → Type 0
StepsAlways layout regs holds old new granted refused turn after =
    (control : Control) (context : Context) (flat : Flat) → MayStep layout control context flat regs (memory_of holds old) →
    StepsTo layout control context regs old new granted refused turn after

-- how the turn ends
abbrev pub turn_of : Result RtTurn Fault → RtTurn
turn_of (Ok turn) = turn
turn_of (Err fault) = RtTurn.Faulted fault
