-- In a valid layout, over each tape whose misses fit, each moment keeps the laws of the control state and has a row.
use Rattle.std.proofs.Common.{List, [], refl}
use Rattle.std.specs.Prelude.{All}
use Rattle.std.proofs.lemmas.List.Elements.{All-weaker}
use Rattle.ak_core.specs.Layout.{Layout, IsValid}
use Rattle.ak_core.specs.declared.event.Event.{Event}
use Rattle.ak_core.specs.declared.moves.Move.{Move}
use Rattle.ak_model.specs.Paging.Inside.{someone_inside}
use Rattle.ak_model.specs.Control.Trace.{trace}
use Rattle.ak_model.specs.Control.Moments.{moments}
use Rattle.ak_model.specs.Laws.Premises.{MissesFit}
use Rattle.ak_model.specs.Laws.StepRows.{IsInRow}
use Rattle.ak_model.specs.Laws.Orderly.{OrderlyAfter, KeepsLaws}
use Rattle.ak_model.specs.Tapes.ProgramTurns.{program_turns}
use Rattle.ak_model.proofs.Clusters.ValidClusters.{clusters_fit, none_fit}
use Rattle.ak_model.proofs.Control.OrderlyTurns.{in_row}
use Rattle.ak_model.proofs.Control.OrderlyTrace.{trace_fits, moments_fit}

module _ (layout : Layout) (valid : IsValid layout) (tape : List Event) (misses : MissesFit layout [] tape) where
  built_fits : OrderlyAfter layout (program_turns layout tape []) (trace layout tape [])
  built_fits = record {
    stack = tt;
    now = λ e. refl;
    inside = λ h. absurd (cc);
    phase = tt;
    queue = none_fit layout;
    served = refl;
    tape = misses;
    pending_only = λ h. absurd (cc);
    pending_if = λ n r l. absurd (cc);
    stuck = λ l h. absurd (cc);
  }

  -- after each move
  pub trace_is_orderly : (moves : List Move) → OrderlyAfter layout (program_turns layout tape moves) (trace layout tape moves)
  trace_is_orderly moves = trace_fits layout (clusters_fit layout valid) tape moves built_fits

  -- and before each turn
  pub all_orderly : (moves : List Move) → All (KeepsLaws layout) (moments layout tape moves)
  all_orderly moves = moments_fit layout (clusters_fit layout valid) tape moves built_fits

  -- each step has a row
  pub all_in_row : (moves : List Move) → All (λ moment. IsInRow layout moment.control moment.control.now) (moments layout tape moves)
  all_in_row moves =
      All-weaker (KeepsLaws layout) (λ moment. IsInRow layout moment.control moment.control.now)
      (λ moment h. in_row layout h.0 (someone_inside layout moment.past) moment.control h.1) (moments layout tape moves) (all_orderly moves)
