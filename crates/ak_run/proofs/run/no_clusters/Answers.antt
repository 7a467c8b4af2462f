use Rattle.std.proofs.Common.{ℕ, List, [], ◌≡◌}
use Rattle.std.specs.Prelude.{Some, slice_get}
use Rattle.ak_relation.proofs.Rows.BlankPages.{zero_at}
use Rattle.ak_run.proofs.run.no_clusters.Goals as goal

abbrev nothing : List ℕ
nothing = []

-- there is no item
no_item : (i c : ℕ) → slice_get nothing i ≡ Some c → ⊥
no_item i c h = cc

pub returns : goal.returns
returns c = c.load.ensures nothing (record { size = zero_at 4096 24 8; clusters = λ i c h. absurd (no_item i c h) })
