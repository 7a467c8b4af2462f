-- What the code notes of the clusters that are in and of the open request.
use Rattle.std.specs.Prelude.{◌≡◌, ℕ, List, [], ◌∷◌, ◌++◌, length, min, take, drop, Option, Some, None}
use Rattle.ak_core.specs.declared.moves.Exit.{Exit}
use Rattle.ak_core.specs.declared.moves.Exit.TheVariants.{Ask, Ready}
use Rattle.ak_model.specs.Kernels.Counted.{Request, Service}
use Rattle.ak_driver.specs.declared.changes.Change.{Change}
use Rattle.ak_driver.specs.declared.changes.Change.TheVariants.{Exits}
use Rattle.ak_driver.specs.declared.requests.Requests.{Requests}

-- what is noted: the dropped clusters and after them those that are in, how many were dropped, and the cluster that is asked for
pub record RequestNote : Type 0 where
  pub clusters : List ℕ
  pub dropped : ℕ
  pub asked : Option ℕ

-- what the code notes
abbrev pub request_note : Requests → RequestNote
request_note requests = record { clusters = requests.clusters.items; dropped = requests.dropped; asked = requests.asked }

-- the clusters that are in
abbrev pub clusters_in : RequestNote → List ℕ
clusters_in note = drop note.dropped note.clusters

-- the cluster that was asked for, if there is one, is in
abbrev pub asked_in : RequestNote → Option ℕ → RequestNote
asked_in before None = before
asked_in before (Some c) = record { clusters = clusters_in before ++ c ∷ []; dropped = 0; asked = None }

-- what is noted after an exit
abbrev pub note_by : Exit → RequestNote → RequestNote
note_by (Ask d c) before =
    let rest = clusters_in before in record { clusters = rest; dropped = min (length rest) d; asked = Some c }
note_by Ready before = asked_in before before.asked
note_by _ before = before

-- what is noted after a change
abbrev pub note_after : Change → RequestNote → RequestNote
note_after (Exits lp exit) before = note_by exit before
note_after _ before = before

-- the open request, where a cluster is asked for
abbrev pub open_request : Option ℕ → List ℕ → Option Request
open_request None dropped = None
open_request (Some c) dropped = Some (record { dropped = dropped; cluster = c })

-- the clusters that are in and the open request are these
pub record AreRequests (note : RequestNote) (service : Service) : Type 0 where
  pub queue_is : clusters_in note ≡ service.queue
  pub request_is : open_request note.asked (take note.dropped note.clusters) ≡ service.request
