-- The relation after the build: it holds of the empty history, with no turn and no event.
use Rattle.std.proofs.Common.{ℕ, List, [], refl, arith}
use Rattle.ak_core.specs.Layout.{Layout, IsValid}
use Rattle.ak_model.specs.Control.ControlState.{control_at_build}
use Rattle.ak_model.proofs.Control.OrderlyMoments.{trace_is_orderly}
use Rattle.ak_model.proofs.Control.OneInsideTrace.{is_present}
use Rattle.ak_relation.specs.State.MachineState.{State}
use Rattle.ak_relation.specs.Relation.Stands.{Stands}
use Rattle.ak_relation.specs.Premises.Built.{first_state, IsBuilt}
use Rattle.ak_relation.specs.Relation.Does.{at_moment}

-- the relation after the build
pub built_stands : (layout : Layout) (image : List ℕ) (state : State) → IsValid layout → IsBuilt layout image state →
    Stands layout image (at_moment [] (control_at_build []) [] state)
built_stands layout image state valid b = record {
  inputs = record { valid = valid; bytes = b.bytes; whole = b.whole; words = record { returned = tt; saved = tt; now = tt } };
  tape = record { ordered = refl; fit = tt; completed = λ i lt. absurd (omega arith); traps = tt };
  turns = tt;
  laws = record {
    orderly = trace_is_orderly layout valid [] tt [];
    present = is_present layout [] [];
    fresh = (refl, refl, refl);
    taken = refl;
    earlier = tt;
    answered = record { returned = refl };
    going = λ live. tt;
  };
  counted = b.count;
  queued = b.queue;
  tables = b.tables;
  bytes = record {
    flat = first_state layout image;
    program = refl;
    pages = b.pages;
    registers = record { given = λ lp within. tt };
  };
  reached = record { stays = λ lp. b.flushed lp; breaks = tt };
}
