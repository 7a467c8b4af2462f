-- A request of the runtime, and the moves between it and the run that follows.
use Rattle.std.specs.Prelude.{◌≡◌, IsTrue, ℕ, Bool, true, false, not, List, length, take, flat_map}
use Rattle.std.specs.List.{list_all}
use Rattle.ak_core.specs.Layout.{Layout}
use Rattle.ak_core.specs.declared.event.Event.{Event}
use Rattle.ak_core.specs.declared.moves.Answer.{Answer}
use Rattle.ak_core.specs.declared.moves.Exit.TheVariants.{Ask}
use Rattle.ak_core.specs.declared.moves.Move.{Move}
use Rattle.ak_core.specs.declared.moves.Move.TheVariants.{Run}
use Rattle.ak_model.specs.Paging.Pages.{pages_of}
use Rattle.ak_model.specs.Control.Answers.{answer}
use Rattle.ak_model.specs.Control.Trace.{trace}
use Rattle.ak_model.specs.Kernels.Counted.{service}

-- the answer to one more move after these
abbrev pub answer_after : Layout → List Event → List Move → Move → Answer
answer_after layout tape moves m = answer layout (trace layout tape moves).past (trace layout tape moves).control m

-- a move that runs a processor
abbrev pub is_run : Move → Bool
is_run (Run lp n) = true
is_run _ = false

-- the pages of the d clusters that are the next to leave, as the kernel counts after these moves
abbrev pub pages_dropped : Layout → List Event → List Move → ℕ → ℕ
pages_dropped layout tape moves d = length (flat_map (pages_of layout) (take d (service (trace layout tape moves).past).queue))

-- the pages of a cluster
abbrev pub pages_fetched : Layout → ℕ → ℕ
pages_fetched layout c = length (pages_of layout c)

-- after some moves the runtime asked that d clusters be dropped and cluster c be fetched, and no move since is a run
pub record IsAsked (layout : Layout) (tape : List Event) (before : List Move) (ask : Move) (since : List Move) (d c : ℕ) : Type 0 where
  pub asked : answer_after layout tape before ask ≡ Answer.Exit (Ask d c)
  pub without_run : IsTrue (list_all (λ m. not (is_run m)) since)
