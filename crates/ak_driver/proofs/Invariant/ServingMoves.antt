-- What a move that serves a request comes to, and how many are left.
use Rattle.std.specs.Prelude.{◌≡◌, ℕ, ◌+◌, ◌<◌, Bool, true, false, not, List, ◌∷◌, ◌++◌, Some, flat_map}
use Rattle.std.specs.List.{list_any, sum_by}
use Rattle.ak_core.specs.Layout.{Layout}
use Rattle.ak_core.specs.declared.moves.Move.{Move}
use Rattle.ak_core.specs.declared.moves.Exit.{Exit}
use Rattle.ak_core.specs.declared.moves.Answer.{Answer}
use Rattle.ak_model.specs.Paging.Histories.{History, change}
use Rattle.ak_model.specs.Paging.Tracking.{tracked}
use Rattle.ak_model.specs.Control.ControlState.{Control}
use Rattle.ak_model.specs.Kernels.Repeats.{is_done}
use Rattle.ak_model.specs.Control.Answers.{answer}
use Rattle.ak_model.specs.Control.Entering.{control_after}
use Rattle.ak_model.specs.Paging.Pages.{pages, pages_of, cluster_at}
use Rattle.ak_model.specs.Paging.Holdings.{FreeFrame}
use Rattle.ak_model.specs.Paging.Frames.{held}
use Rattle.ak_model.specs.Clusters.Queue.{is_in}
use Rattle.ak_model.specs.Kernels.Counted.{service}
use Rattle.ak_model.specs.Kernels.HonestKernel.{frame_of, on_frame, lowest_free}
use Rattle.ak_model.specs.Stops.Blame.{resumes}
use Rattle.ak_driver.specs.Requests.{is_run}
use Rattle.ak_driver.proofs.Invariant.PageStates.{PageState, Out, Unmapped, Blocked, In}
use Rattle.ak_driver.proofs.Invariant.Spots.{Requested, Progress}
use Rattle.ak_driver.proofs.Invariant.HonestMoments.{IsHonest, dropped_for}

-- ---- How many moves are left

-- a page that leaves is unmapped, blocked and written out
abbrev pub leaving_left : PageState → ℕ
leaving_left Out = 0
leaving_left Blocked = 1
leaving_left Unmapped = 2
leaving_left In = 3

-- a page that is fetched is loaded and mapped
abbrev pub fetching_left : PageState → ℕ
fetching_left Out = 2
fetching_left Unmapped = 1
fetching_left Blocked = 0
fetching_left In = 0

-- the moves that are left for a page, where its cluster leaves or not
abbrev pub page_left : Bool → PageState → ℕ
page_left true state = leaving_left state
page_left false state = fetching_left state

-- the pages that leave
abbrev pub leaving_pages : Layout → List ℕ → List ℕ
leaving_pages layout leaving = flat_map (pages_of layout) leaving

-- the page is in a frame that is not tracked
abbrev pub is_untracked : Layout → History → ℕ → Bool
is_untracked layout past p = on_frame (frame_of layout past p) (λ f. not (tracked layout past f))

-- one tracking cycle, where some page that leaves is in such a frame
abbrev pub cycle_left : Bool → ℕ
cycle_left true = 1
cycle_left false = 0

-- at most so many moves are left before the request is answered, with the entering
abbrev pub moves_left : Layout → List ℕ → ℕ → History → (ℕ → PageState) → ℕ
moves_left layout leaving c past states =
    sum_by (λ p. page_left (is_in leaving (cluster_at layout p)) (states p)) (leaving_pages layout leaving ++ pages_of layout c)
    + cycle_left (list_any (is_untracked layout past) (leaving_pages layout leaving))
    + 1

-- ---- The moves

-- the move is done, and leads to another moment of the same request, with fewer moves left
pub record Serves (layout : Layout) (past : History) (control : Control) (c : ℕ) (rest : Progress) (old : ℕ → PageState) (move : Move) : Type 0 where
  pub answer_is : Answer
  pub answered : answer layout past control move ≡ answer_is
  pub done : is_done answer_is ≡ true
  pub states : ℕ → PageState
  pub holds : IsHonest layout ((move, answer_is) ∷ past) (control_after layout past control move answer_is) (Requested c) rest states
  pub same_service : service ((move, answer_is) ∷ past) ≡ service past
  pub fewer : moves_left layout (dropped_for (service past).request) c ((move, answer_is) ∷ past) states < moves_left layout (dropped_for (service past).request) c past old
  pub not_run : is_run move ≡ false
  pub not_exit : (exit : Exit) → answer_is ≡ Answer.Exit exit → ⊥
  pub not_resumed : resumes (change move answer_is) ≡ false

-- once each page that leaves is out, while a page of the cluster that is fetched is out too, the lowest free frame is there
abbrev pub HasRoom : Layout → History → ℕ → (ℕ → PageState) → Type 0
HasRoom layout past c states =
    ((q : ℕ) → q < pages layout → is_in (dropped_for (service past).request) (cluster_at layout q) ≡ true → states q ≡ Out)
    → (p : ℕ) → p < pages layout → cluster_at layout p ≡ c → states p ≡ Out
    → (f : ℕ) × (lowest_free layout past ≡ Some f) × (held layout past f ≡ FreeFrame) × (f < layout.frames)
