-- For which history the honest kernel's code stands, and what it may be told.
use Rattle.std.specs.Prelude.{◌≡◌, ◌^◌, ◌<◌, ◌≤◌, Bool, false, length, Option, Some, None}
use Rattle.ak_core.specs.Layout.{Layout, IsValid}
use Rattle.ak_core.specs.declared.moves.Move.{Move}
use Rattle.ak_model.specs.Paging.Histories.{History, Change}
use Rattle.ak_model.specs.Kernels.Counted.{service, service_after}
use Rattle.ak_model.specs.Kernels.Repeats.{same_move, was_refused}
use Rattle.ak_driver.specs.NotedTables.{HasTables, IsThere}
use Rattle.ak_driver.specs.NotedCycles.{HasCycles}
use Rattle.ak_driver.specs.NotedCounts.{HasCounts}
use Rattle.ak_driver.specs.NotedRequests.{AreRequests, request_note}
use Rattle.ak_driver.specs.declared.driver.Driver.{Driver}

-- the move is the one that was refused
abbrev pub refuses : Option Move → Move → Bool
refuses None m = false
refuses (Some refused) m = same_move refused m

-- the driver stands for this history: it keeps of it what the next move is read from
pub record Notes (driver : Driver) (layout : Layout) (past : History) : Type 0 where
  pub valid : IsValid layout
  pub place_is : driver.place ≡ length past
  pub tables_are : HasTables driver.tables layout past
  pub cycles_are : HasCycles driver.tracking layout past
  pub counts_are : HasCounts driver.counts past
  pub requests_are : AreRequests (request_note driver.requests) (service past)
  pub refused_is : (m : Move) → refuses driver.refused m ≡ was_refused past m

-- the change may come next: the frame or the processor that it names is one of the layout, no more than 512 clusters are in
-- after it, and fewer than 2^31 moves were made
pub record IsPlausible (layout : Layout) (past : History) (next : Change) : Type 0 where
  pub few : length past < 2 ^ 31
  pub there : IsThere layout next
  pub room : length (service_after next (service past)).queue ≤ 512
