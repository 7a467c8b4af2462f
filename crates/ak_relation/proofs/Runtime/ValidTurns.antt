-- Turns in the runtime's mode, for each valid layout: what its steps want of a layout follows from that.
use Rattle.std.proofs.Common.{refl}
use Rattle.std.specs.Prelude.{None}
use Rattle.ak_core.specs.Layout.{Layout, IsValid}
use Rattle.ak_core.specs.declared.page.Lp.{Lp}
use Rattle.ak_model.proofs.Clusters.ValidClusters.{clusters_fit}
use Rattle.ak_model.specs.Paging.Inside.{since}
use Rattle.ak_relation.specs.State.MachineState.{State}
use Rattle.ak_pager.specs.declared.turn.RtTurn.{RtTurn}
use Rattle.ak_relation.specs.Premises.Works.{exit_of}
use Rattle.ak_relation.specs.Premises.Shows.{ShowsStep}
use Rattle.ak_relation.specs.Relation.Does.{IsTurn}
use Rattle.ak_relation.specs.Relation.Causes.{NamesCause}
use Rattle.ak_ssa.proofs.Room.{room}
use Rattle.ak_relation.proofs.Runtime.RuntimeTurns.{runtime_turns, by_place}

-- a turn in the runtime's mode, for each valid layout
pub valid_turns : (layout : Layout) → IsValid layout → (lp : Lp) (old new : State) (outcome : RtTurn) → ShowsStep layout lp.0 old new outcome →
    IsTurn layout lp.0 old new (exit_of layout outcome) None
valid_turns layout valid lp old new outcome s = runtime_turns layout (clusters_fit layout valid) (room layout valid) lp old new outcome s

-- and the cause after it
pub valid_causes : (layout : Layout) → IsValid layout → (lp : Lp) (old new : State) (outcome : RtTurn) → ShowsStep layout lp.0 old new outcome →
    NamesCause layout lp.0 old new (exit_of layout outcome) None outcome
valid_causes layout valid lp old new outcome s image past control turns within h all =
    by_place layout (clusters_fit layout valid) (room layout valid) lp old new outcome s image past control turns within h all (since past lp.0) refl
