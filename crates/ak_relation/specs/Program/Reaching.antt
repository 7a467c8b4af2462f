-- The part of the relation on what was reached: what each processor inside has cached and holds, and which access a break names.
use Rattle.std.specs.Prelude.{◌≡◌, ℕ, Bool, true, List, [], ◌∷◌, ◌++◌, length, Option, Some, None}
use Rattle.std.specs.List.{list_any}
use Rattle.ak_core.specs.Layout.{Layout}
use Rattle.ak_core.specs.Mem.{Access}
use Rattle.ak_core.specs.declared.event.Event.TheVariants.{Break}
use Rattle.ak_core.specs.declared.page.Kind.TheVariants.{Write}
use Rattle.ak_model.specs.Paging.Pages.{tcs_page, ssa_page, cluster_at}
use Rattle.ak_model.specs.Paging.Histories.{History, first}
use Rattle.ak_model.specs.Paging.Inside.{since}
use Rattle.ak_model.specs.Paging.Walk.{walkable, tcs_walkable}
use Rattle.ak_model.specs.Clusters.Queue.{is_in}
use Rattle.ak_model.specs.Control.ControlState.{Reason, Broke, Saved, Control}
use Rattle.ak_model.specs.Tapes.LastMoment.{FlatRuns}
use Rattle.ak_model.specs.Tapes.ProgramTurns.{ProgramTurn, turn_at}
use Rattle.ak_model.specs.Misses.Reached.{reached_since}
use Rattle.ak_model.specs.Sound.Forced.{queue_by}
use Rattle.ak_model.specs.Misses.KeptTranslations.{granted_since, is_among, same_access, MayFaultUnkept}
use Rattle.ak_ssa.specs.SavedFrames.{SavedFrame, ByPage, area_place, HasFrame}
use Rattle.ak_tlb.specs.Fills.{Fill}
use Rattle.ak_relation.specs.State.MachineState.{Processor}
use Rattle.ak_pager.specs.RuntimePages.{OfCopy, Copies}
use Rattle.ak_model.specs.Laws.OpenFrames.{HoldsSince}

-- ---- Cached translations

-- the access was cached since the flush
abbrev pub is_filled : List Fill → Access → Bool
is_filled fills t = list_any (λ fill. same_access t fill.access) fills

-- the accesses that a processor's instructions were granted since it entered
abbrev pub granted_to : Layout → FlatRuns → ℕ → History → Control → List ProgramTurn → List Access
granted_to layout runs lp past control turns = granted_since layout runs (turn_at lp past control) turns

-- a cached translation names the frame that holds the page, and was found by a walk since the entering
pub record IsReachedFill (layout : Layout) (past : History) (place : ℕ) (fill : Fill) : Type 0 where
  pub frame : HoldsSince layout past place fill.frame fill.access.page.0
  pub reached : reached_since layout place past fill.access ≡ true

-- each of these does
abbrev pub AreReached : Layout → History → ℕ → List Fill → Type 0
AreReached layout past place [] = Unit {0}
AreReached layout past place (fill ∷ fills) = IsReachedFill layout past place fill × AreReached layout past place fills

-- what was cached since the flush is just what was granted since the entering. So where that is little, all of it is cached still
abbrev pub CachesGranted : List Fill → List Access → Type 0
CachesGranted fills granted = (t : Access) → is_filled fills t ≡ is_among granted t

-- ---- Held frames

-- the frame holds the TCS, which entering found
pub record HoldsTcs (layout : Layout) (past : History) (place f : ℕ) : Type 0 where
  pub frame : HoldsSince layout past place f (tcs_page layout)
  pub found : tcs_walkable layout (first past place) ≡ true

-- the frame holds the area for the next saved context, which a walk found at the entering
pub record HoldsArea (layout : Layout) (past : History) (place saved f : ℕ) : Type 0 where
  pub frame : HoldsSince layout past place f (ssa_page layout saved)
  pub found : walkable layout (first past place) (ssa_page layout saved) Write ≡ true

-- a processor that entered at this place and is inside
pub record IsStaying (layout : Layout) (runs : FlatRuns) (past : History) (control : Control) (turns : List ProgramTurn) (lp : ℕ) (processor : Processor) (place : ℕ) : Type 0 where
  pub fills : AreReached layout past place processor.fills
  pub caches : CachesGranted processor.fills (granted_to layout runs lp past control turns)
  pub tcs : HoldsTcs layout past place processor.tcs
  pub area : HoldsArea layout past place (length control.stack) processor.ssa

-- a processor that is inside, or has nothing cached
abbrev pub StaysBy : Layout → FlatRuns → History → Control → List ProgramTurn → ℕ → Processor → Option ℕ → Type 0
StaysBy layout runs past control turns lp processor None = processor.fills ≡ []
StaysBy layout runs past control turns lp processor (Some place) = IsStaying layout runs past control turns lp processor place

-- ---- Breaks

-- a break among the turns, which this access forced: it may fault and its translation is not kept, though its cluster is in
pub record IsBreakBy (layout : Layout) (runs : FlatRuns) (turns : List ProgramTurn) (access : Access) : Type 0 where
  pub newer : List ProgramTurn
  pub turn : ProgramTurn
  pub older : List ProgramTurn
  pub among : turns ≡ newer ++ turn ∷ older
  pub broke : turn.event ≡ Some (Break turn.count)
  pub faults : MayFaultUnkept layout runs turn older access
  pub inside : is_in (queue_by layout older) (cluster_at layout access.page.0) ≡ true

-- the bytes hold a saved frame that notes an access which forced a break
pub record NamesBreak (layout : Layout) (runs : FlatRuns) (turns : List ProgramTurn) (bytes : List ℕ) : Type 0 where
  pub frame : SavedFrame
  pub stored : HasFrame layout area_place bytes frame
  pub access : Access
  pub noted : frame.cause ≡ ByPage access
  pub forced : IsBreakBy layout runs turns access

-- a reason that is a break has such a frame
abbrev pub IsForcedBy : Layout → FlatRuns → List ProgramTurn → Option (List ℕ) → Reason → Type 0
IsForcedBy layout runs turns bytes Broke = OfCopy bytes (NamesBreak layout runs turns)
IsForcedBy layout runs turns bytes _ = Unit {0}

-- each saved context that broke has one
abbrev pub BreaksStand : Layout → FlatRuns → List ProgramTurn → Copies → List Saved → Type 0
BreaksStand layout runs turns copies [] = Unit {0}
BreaksStand layout runs turns copies (saved ∷ older) =
    IsForcedBy layout runs turns (copies (ssa_page layout (length older))) saved.reason
    × BreaksStand layout runs turns copies older

-- ---- All of it

-- what was reached
pub record ReachedStands (layout : Layout) (runs : FlatRuns) (past : History) (control : Control) (turns : List ProgramTurn) (processors : ℕ → Processor) (copies : Copies) : Type 0 where
  pub stays : (lp : ℕ) → StaysBy layout runs past control turns lp (processors lp) (since past lp)
  pub breaks : BreaksStand layout runs turns copies control.stack
