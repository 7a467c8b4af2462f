-- The part of the soundness of a journal on misses: each is forced by an access of the program. (The Autarky paper, self-paging
-- runtime: a fault of the program on a page that was evicted.)
use Rattle.std.specs.Prelude.{◌≡◌, ℕ, false, List, Option, Some}
use Rattle.ak_core.specs.Layout.{Layout}
use Rattle.ak_core.specs.Journal.{Journal}
use Rattle.ak_core.specs.Mem.{Access}
use Rattle.ak_core.specs.declared.event.Event.{Event}
use Rattle.ak_core.specs.declared.event.Event.TheVariants.{Miss}
use Rattle.ak_model.specs.Paging.Pages.{cluster_at}
use Rattle.ak_model.specs.Clusters.Queue.{is_in}
use Rattle.ak_model.specs.Tapes.LastMoment.{FlatRuns, runs_of}
use Rattle.ak_model.specs.Tapes.ProgramTurns.{ProgramTurn}
use Rattle.ak_model.specs.Sound.Forced.{EachTurn, queue_by, turns_of}
use Rattle.ak_model.specs.Misses.KeptTranslations.{MayFaultUnkept}

-- the miss of a cluster is forced: the cluster is out by the misses before, and an access of one of its pages may fault
pub record MissIsForced (layout : Layout) (runs : FlatRuns) (turn : ProgramTurn) (older : List ProgramTurn) (c : ℕ) : Type 0 where
  pub access : Access
  pub faults : MayFaultUnkept layout runs turn older access
  pub cluster : cluster_at layout access.page.0 ≡ c
  pub out : is_in (queue_by layout older) c ≡ false

-- a turn with this event: where it misses a cluster, that is forced
abbrev pub MissedBy : Layout → FlatRuns → ProgramTurn → List ProgramTurn → Option Event → Type 0
MissedBy layout runs turn older (Some (Miss i c)) = MissIsForced layout runs turn older c
MissedBy layout runs turn older _ = Unit {0}

-- each turn of the journal that misses a cluster is forced to
pub record MissesAreForced (image : List ℕ) (layout : Layout) (journal : Journal) : Type 0 where
  pub turns_miss : EachTurn (λ turn. λ older. MissedBy layout (runs_of layout image journal) turn older turn.event) (turns_of layout journal)
