-- The processors that a tracking cycle has to wait for: those that were inside before it and have not left since. And by the
-- places of ETRACK: which frames are tracked, and when the last cycle is incomplete. (SDM volume 3D, ETRACK.)
use Rattle.std.specs.Prelude.{◌≡◌, ℕ, ◌-◌, ◌≤◌, ◌<◌, Bool, false, ◌&&◌, ◌||◌, not, List, [], ◌∷◌, length, filter, Some, nat_le, ◌==◌}
use Rattle.ak_core.specs.Layout.{Layout}
use Rattle.ak_core.specs.declared.moves.Move.TheVariants.{Etrack}
use Rattle.ak_core.specs.declared.moves.Answer.TheVariants.{Ok}
use Rattle.ak_model.specs.Paging.Histories.{History, first, Change, change_of, Exits, Interrupts}
use Rattle.ak_model.specs.Paging.Frames.{blocked_at}
use Rattle.ak_model.specs.Paging.Inside.{inside, processors}
use Rattle.ak_model.specs.Paging.Tracking.{Cycle}

-- a processor leaves by this change
abbrev pub leaves : Change → ℕ → Bool
leaves (Exits lp exit) q = q == lp
leaves (Interrupts lp) q = q == lp
leaves _ q = false

-- a processor left at this place or later
abbrev pub left_since : History → ℕ → ℕ → Bool
left_since [] place q = false
left_since (pair ∷ past) place q = (leaves (change_of pair) q && nat_le place (length past)) || left_since past place q

-- the processors that were inside before a place and have not left since
abbrev pub still_inside : Layout → History → ℕ → List ℕ
still_inside layout past place =
    filter (λ q. not (left_since past place q)) (filter (inside (first past (place - 1))) (processors layout))

-- a cycle has its place in the history, and waits for these processors
pub record Waits (layout : Layout) (past : History) (cycle : Cycle) : Type 0 where
  pub low : 1 ≤ cycle.at
  pub high : cycle.at ≤ length past
  pub waiting : cycle.waiting ≡ still_inside layout past cycle.at

-- each of these cycles does
abbrev pub AllWait : Layout → History → List Cycle → Type 0
AllWait layout past [] = Unit {0}
AllWait layout past (cycle ∷ older) = Waits layout past cycle × AllWait layout past older

-- cycles whose places strictly descend, from at most this place on
abbrev pub Descend : ℕ → List Cycle → Type 0
Descend n [] = Unit {0}
Descend n (cycle ∷ older) = (1 ≤ cycle.at) × (cycle.at ≤ n) × Descend (cycle.at - 1) older

-- an ETRACK that was answered Ok stands at this place of the history
abbrev pub IsEtrackAt : History → ℕ → Type 0
IsEtrackAt past place = first past place ≡ (Etrack, Ok) ∷ first past (place - 1)

-- the frame is blocked, and after its block stands an ETRACK that was answered Ok, such that each processor that was inside
-- before it has left since
pub record IsTracked (layout : Layout) (past : History) (f : ℕ) : Type 0 where
  pub block : ℕ
  pub blocked : blocked_at past f ≡ Some block
  pub place : ℕ
  pub after : block < place
  pub etrack : IsEtrackAt past place
  pub left : still_inside layout past place ≡ []

-- the last ETRACK that was answered Ok waits: a processor that was inside before it has not left since
pub record IsIncomplete (layout : Layout) (past : History) : Type 0 where
  pub place : ℕ
  pub etrack : IsEtrackAt past place
  pub last : (other : ℕ) → IsEtrackAt past other → other ≤ place
  pub waits : 1 ≤ length (still_inside layout past place)
